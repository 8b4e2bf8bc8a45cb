-- Each contract determines what its call owes: two results that satisfy it are equal in the answer, in the named account and in every byte outside the lot. Assumes nothing.
use Rattle.std.specs.Prelude.{Result, Ok, Err}
use Prim.Native.Nat.{ℕ, ◌<◌}
use mathlib.Core.Path.{◌≡◌, refl, sym, ◌∙◌}
use mathlib.Core.List.{List}
use lib.ListN.{length}
use Rattle.model.specs.Account.{fresh, Named, refused, found}
use Rattle.model.specs.Taking.{deliver_to}
use Rattle.model.specs.Closing.{close_from}
use Rattle.model.proofs.Tests.{no_way}
use Rattle.model.specs.declared.Refusal.{Refusal}
use Rattle.lot.specs.View.{Lot}
use Rattle.lots.specs.Memory.{view_of, OnlyLot, Becomes, named}
use Rattle.standby.specs.Calls.{FreedAll, Started, OpenedAs, AccountOpened, deliver_answer, TakenBy, Delivered, Freed, Dropped}
use Rattle.standby.specs.Closing.{close_answer, ClosedAs, EpochClosed}
use Rattle.standby.specs.Images.{SavedIn, save_answer, AccountSaved, LoadedAs, load_answer, AccountLoaded}
use Rattle.lots.proofs.Named.{holder}
use Rattle.standby.proofs.Saving.{saving}
use Rattle.standby.proofs.Loading.{loading}

-- two memories have the same bytes outside lot i, and the same account there
abbrev pub Alike : ℕ → List ℕ → List ℕ → Type 0
Alike i m₁ m₂ = Becomes i m₁ m₂ (view_of m₁ i)

alike : {i : ℕ} {m m₁ m₂ : List ℕ} → OnlyLot i m m₁ → OnlyLot i m m₂ → view_of m₂ i ≡ view_of m₁ i → Alike i m₁ m₂
alike u w v = (record { long = w.long ∙ sym u.long; before = w.before ∙ sym u.before; behind = w.behind ∙ sym u.behind }, v)

both_become : {i : ℕ} {m m₁ m₂ : List ℕ} {v : Lot} → Becomes i m m₁ v → Becomes i m m₂ v → Alike i m₁ m₂
both_become u w = alike u.0 w.0 (w.1 ∙ sym u.1)

-- two memories after calls that name a lot, by the answer: a refusal leaves what was there
abbrev pub SameAfter : ℕ → Result (Unit {0}) Refusal → List ℕ → List ℕ → Type 0
SameAfter lot (Ok _) m₁ m₂ = Alike lot m₁ m₂
SameAfter lot (Err r) m₁ m₂ = m₂ ≡ m₁

-- the same for start, which writes in all lots
abbrev pub SameStart : ℕ → Result (Unit {0}) Refusal → List ℕ → List ℕ → Type 0
SameStart lots (Ok _) m₁ m₂ = (length m₂ ≡ length m₁) × ((i : ℕ) → i < lots → view_of m₂ i ≡ view_of m₁ i)
SameStart lots (Err r) m₁ m₂ = m₂ ≡ m₁

-- the same for open, which answers the lot
abbrev pub SameOpen : Result ℕ Refusal → List ℕ → List ℕ → Type 0
SameOpen (Ok i) m₁ m₂ = Alike i m₁ m₂
SameOpen (Err r) m₁ m₂ = m₂ ≡ m₁

module _ {m m₁ m₂ : List ℕ} where
  pub started_same : {lots : ℕ} {r₁ r₂ : Result (Unit {0}) Refusal} → Started m m₁ lots r₁ → Started m m₂ lots r₂ → (r₂ ≡ r₁) × SameStart lots r₁ m₁ m₂
  started_same {lots} {r₁} u w = let e = w.answer ∙ sym u.answer in (e, go r₁ u.freed (rw e at w.freed))
    where
      go : (r : Result (Unit {0}) Refusal) → FreedAll m m₁ lots r → FreedAll m m₂ lots r → SameStart lots r m₁ m₂
      go (Ok _) u w = (w.long ∙ sym u.long, λ i h. w.each i h ∙ sym (u.each i h))
      go (Err r) u w = w ∙ sym u

  pub opened_same : {lots number f k : ℕ} {r₁ r₂ : Result ℕ Refusal} → AccountOpened m m₁ lots number f k r₁ → AccountOpened m m₂ lots number f k r₂ → (r₂ ≡ r₁) × SameOpen r₁ m₁ m₂
  opened_same {lots} {number} {f} {k} {r₁} u w = let e = w.answer ∙ sym u.answer in (e, go r₁ u.opened (rw e at w.opened))
    where
      go : (r : Result ℕ Refusal) → OpenedAs m m₁ (fresh number f k) r → OpenedAs m m₂ (fresh number f k) r → SameOpen r m₁ m₂
      go (Ok i) u w = both_become u w
      go (Err r) u w = w ∙ sym u

  pub delivered_same : {lots lot number : ℕ} {bytes : List ℕ} {r₁ r₂ : Result (Unit {0}) Refusal} → Delivered m m₁ lots lot number bytes r₁ → Delivered m m₂ lots lot number bytes r₂ → (r₂ ≡ r₁) × SameAfter lot r₁ m₁ m₂
  unfolding deliver_answer
  delivered_same {lots} {lot} {number} {bytes} {r₁} u w = let e = w.answer ∙ sym u.answer in (e, go r₁ (named m lots lot number) refl u.answer u.taken (rw e at w.taken))
    where
      go : (r : Result (Unit {0}) Refusal) (n : Named) → named m lots lot number ≡ n → r ≡ deliver_to n bytes → TakenBy m m₁ lot bytes r → TakenBy m m₂ lot bytes r → SameAfter lot r m₁ m₂
      go (Ok _) (refused s) q e u w = no_way cc
      go (Ok _) (found a) q e u w = let h = (holder m lots lot number q).held in alike u.0 w.0 (w.1 a h ∙ sym (u.1 a h))
      go (Err r) n q e u w = w ∙ sym u

  pub dropped_same : {lots lot number : ℕ} {r₁ r₂ : Result (Unit {0}) Refusal} → Dropped m m₁ lots lot number r₁ → Dropped m m₂ lots lot number r₂ → (r₂ ≡ r₁) × SameAfter lot r₁ m₁ m₂
  dropped_same {lots} {lot} {number} {r₁} u w = let e = w.answer ∙ sym u.answer in (e, go r₁ u.freed (rw e at w.freed))
    where
      go : (r : Result (Unit {0}) Refusal) → Freed m m₁ lot r → Freed m m₂ lot r → SameAfter lot r m₁ m₂
      go (Ok _) u w = both_become u w
      go (Err r) u w = w ∙ sym u

-- ---- close

-- two closes are answered alike, leave the same account in the lot, and write the same list
pub record ClosedAlike (lot : ℕ) (m₁ m₂ list₁ list₂ : List ℕ) (r₁ r₂ : Result ℕ Refusal) : Type 0 where
  pub answer : r₂ ≡ r₁
  pub account : view_of m₂ lot ≡ view_of m₁ lot
  pub list : list₂ ≡ list₁

-- closes of one memory, or of two that show the call the same lot
pub closed_alike : {m n m' n' : List ℕ} {lots lot number : ℕ} {list list₁ list₂ : List ℕ} {r₁ r₂ : Result ℕ Refusal}
    → named n lots lot number ≡ named m lots lot number → view_of n lot ≡ view_of m lot
    → EpochClosed m m' lots lot number list list₁ r₁ → EpochClosed n n' lots lot number list list₂ r₂ → ClosedAlike lot m' n' list₁ list₂ r₁ r₂
unfolding close_answer
closed_alike {m} {n} {m'} {n'} {lots} {lot} {number} {list} {list₁} {list₂} {r₁} {r₂} e v u w =
    let s : r₂ ≡ r₁ = w.answer ∙ rw e (sym u.answer) in
    let same = go r₁ (named m lots lot number) refl u.answer u.closed (rw s at w.closed) in
    record { answer = s; account = same.0; list = same.1 }
  where
    go : (r : Result ℕ Refusal) (x : Named) → named m lots lot number ≡ x → r ≡ close_from x (length list) → ClosedAs m m' lot list list₁ r → ClosedAs n n' lot list list₂ r → (view_of n' lot ≡ view_of m' lot) × (list₂ ≡ list₁)
    go (Ok count) (refused s) q e u w = no_way cc
    go (Ok count) (found a) q e u w =
        let h = (holder m lots lot number q).held in
        let left₁ = u.1 a h in
        let left₂ = w.1 a (v ∙ h) in
        (left₂.0 ∙ sym left₁.0, left₂.1 ∙ sym left₁.1)
    go (Err r) x q e u w = (rw (w.0, u.0) v, w.1 ∙ sym u.1)

-- two memories after a close, by the answer
abbrev pub SameClose : ℕ → Result ℕ Refusal → List ℕ → List ℕ → Type 0
SameClose lot (Ok count) m₁ m₂ = Alike lot m₁ m₂
SameClose lot (Err r) m₁ m₂ = m₂ ≡ m₁

pub closed_same : {m m₁ m₂ : List ℕ} {lots lot number : ℕ} {list list₁ list₂ : List ℕ} {r₁ r₂ : Result ℕ Refusal}
    → EpochClosed m m₁ lots lot number list list₁ r₁ → EpochClosed m m₂ lots lot number list list₂ r₂ → (r₂ ≡ r₁) × SameClose lot r₁ m₁ m₂ × (list₂ ≡ list₁)
closed_same {m} {m₁} {m₂} {lots} {lot} {number} {list} {list₁} {list₂} {r₁} u w =
    let same = closed_alike refl refl u w in
    (same.answer, go r₁ same.account u.closed (rw same.answer at w.closed), same.list)
  where
    go : (r : Result ℕ Refusal) → view_of m₂ lot ≡ view_of m₁ lot → ClosedAs m m₁ lot list list₁ r → ClosedAs m m₂ lot list list₂ r → SameClose lot r m₁ m₂
    go (Ok count) v u w = alike u.0 w.0 v
    go (Err r) v u w = w.0 ∙ sym u.0

-- ---- save, which writes in its buffer alone, and load, which answers the lot

pub saved_same : {m : List ℕ} {lots lot number : ℕ} {buffer b₁ b₂ : List ℕ} {r₁ r₂ : Result ℕ Refusal} → AccountSaved m lots lot number buffer b₁ r₁ → AccountSaved m lots lot number buffer b₂ r₂ → (r₂ ≡ r₁) × (b₂ ≡ b₁)
saved_same {m} {lots} {lot} {number} {buffer} {b₁} {b₂} {r₁} u w = let e = w.answer ∙ sym u.answer in (e, go r₁ u.answer u.saved (rw e at w.saved))
  where
    go : (r : Result ℕ Refusal) → r ≡ save_answer m lots lot number buffer → SavedIn m lot buffer b₁ r → SavedIn m lot buffer b₂ r → b₂ ≡ b₁
    go (Ok n) q u w = let d = saving m lots lot number buffer q in w d.account d.here.held ∙ sym (u d.account d.here.held)
    go (Err r) q u w = w ∙ sym u

pub loaded_same : {m m₁ m₂ : List ℕ} {lots : ℕ} {given : List ℕ} {r₁ r₂ : Result ℕ Refusal} → AccountLoaded m m₁ lots given r₁ → AccountLoaded m m₂ lots given r₂ → (r₂ ≡ r₁) × SameOpen r₁ m₁ m₂
loaded_same {m} {m₁} {m₂} {lots} {given} {r₁} u w = let e = w.answer ∙ sym u.answer in (e, go r₁ u.answer u.loaded (rw e at w.loaded))
  where
    go : (r : Result ℕ Refusal) → r ≡ load_answer m lots given → LoadedAs m m₁ given r → LoadedAs m m₂ given r → SameOpen r m₁ m₂
    go (Ok i) q u w = let o = loading m lots given q refl in both_become (u o.account o.shows) (w o.account o.shows)
    go (Err r) q u w = w ∙ sym u
