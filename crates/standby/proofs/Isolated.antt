-- What an open account's own call is answered depends on its own lot alone, and the calls on other lots leave it. Assumes nothing.
use Rattle.std.specs.Prelude.{Result, Ok, Err}
use Prim.Native.Nat.{ℕ}
use mathlib.Core.Path.{◌≡◌, refl, sym, ap, ◌∙◌}
use mathlib.Core.Logic.{◌≢◌}
use mathlib.Core.List.{List}
use Rattle.model.specs.Account.{Account, fresh}
use Rattle.model.proofs.Tests.{no_way}
use Rattle.model.specs.declared.Refusal.{Refusal}
use Rattle.lot.specs.View.{view_lot, holds}
use Rattle.lots.specs.Memory.{memory_fits, lot_fits, lot_of, view_of, named, is_free}
use Rattle.standby.specs.Calls.{OpenedAs, open_answer, AccountOpened, deliver_answer, TakenBy, Delivered, read_answer, drop_answer, Freed, Dropped}
use Rattle.standby.specs.Closing.{close_answer, ClosedAs, EpochClosed}
use Rattle.lots.proofs.Parts.{others_stay}
use Rattle.standby.proofs.Calls.{opening}
use Rattle.standby.proofs.Determined.{ClosedAlike, closed_alike}
use Rattle.standby.specs.Images.{SavedIn, save_answer, AccountSaved, LoadedAs, load_answer, AccountLoaded}
use Rattle.standby.proofs.Loading.{loading}

-- two memories that both fit, or both do not, and that agree on one lot
pub record SameLot (lots lot : ℕ) (m₁ m₂ : List ℕ) : Type 0 where
  pub fits : memory_fits lots m₁ ≡ memory_fits lots m₂
  pub bytes : lot_of m₁ lot ≡ lot_of m₂ lot

module _ {lots lot : ℕ} {m₁ m₂ : List ℕ} (s : SameLot lots lot m₁ m₂) where
  there : lot_fits lots lot m₁ ≡ lot_fits lots lot m₂
  unfolding lot_fits
  there = rw s.fits

  view : view_of m₁ lot ≡ view_of m₂ lot
  unfolding view_of
  view = ap view_lot s.bytes

  -- what the call finds: the answers of deliver, read, close and save go by it
  pub named_same : (number : ℕ) → named m₁ lots lot number ≡ named m₂ lots lot number
  unfolding named
  named_same number = rw (there, view)

  pub deliver_same : (number : ℕ) (bytes : List ℕ) → deliver_answer m₁ lots lot number bytes ≡ deliver_answer m₂ lots lot number bytes
  unfolding deliver_answer
  deliver_same number bytes = rw (named_same number)

  pub read_same : (number fragment key : ℕ) → read_answer m₁ lots lot number fragment key ≡ read_answer m₂ lots lot number fragment key
  unfolding read_answer
  read_same number fragment key = rw (named_same number)

  pub save_same : (number : ℕ) (buffer : List ℕ) → save_answer m₁ lots lot number buffer ≡ save_answer m₂ lots lot number buffer
  unfolding save_answer
  save_same number buffer = rw (named_same number)

  -- and what save writes in its buffer
  pub saved_alike : {number : ℕ} {buffer buffer' : List ℕ} {r : Result ℕ Refusal} → AccountSaved m₁ lots lot number buffer buffer' r → AccountSaved m₂ lots lot number buffer buffer' r
  saved_alike {number} {buffer} {buffer'} {r} w = record { answer = w.answer ∙ save_same number buffer; saved = go r w.saved }
    where
      go : (r : Result ℕ Refusal) → SavedIn m₁ lot buffer buffer' r → SavedIn m₂ lot buffer buffer' r
      go (Ok n) u = λ a v. u a (view ∙ v)
      go (Err x) u = u

  pub drop_same : (number : ℕ) → drop_answer m₁ lots lot number ≡ drop_answer m₂ lots lot number
  unfolding drop_answer
  drop_same number = rw (there, view)

-- open takes a free lot, and leaves each other lot
pub open_elsewhere : {m m' : List ℕ} {lots number f k : ℕ} (lot : ℕ) {r : Result ℕ Refusal} {a : Account} → AccountOpened m m' lots number f k r → view_of m lot ≡ holds a → lot_of m' lot ≡ lot_of m lot
open_elsewhere {m} {m'} {lots} {number} {f} {k} lot {r} w e = go r w.answer w.opened
  where
    go : (r : Result ℕ Refusal) → r ≡ open_answer m lots number f k → OpenedAs m m' (fresh number f k) r → lot_of m' lot ≡ lot_of m lot
    go (Ok i) q u = others_stay u.0 lot (λ s. no_way (ap is_free (sym e) ∙ ap (λ j. is_free (view_of m j)) s ∙ (opening m lots number f k q refl).was_free))
    go (Err x) q u = rw u

-- and so does load
pub load_elsewhere : {m m' : List ℕ} {lots : ℕ} {given : List ℕ} (lot : ℕ) {r : Result ℕ Refusal} {a : Account} → AccountLoaded m m' lots given r → view_of m lot ≡ holds a → lot_of m' lot ≡ lot_of m lot
load_elsewhere {m} {m'} {lots} {given} lot {r} w e = go r w.answer w.loaded
  where
    go : (r : Result ℕ Refusal) → r ≡ load_answer m lots given → LoadedAs m m' given r → lot_of m' lot ≡ lot_of m lot
    go (Ok i) q u =
        let o = loading m lots given q refl in
        others_stay (u o.account o.shows).0 lot (λ s. no_way (ap is_free (sym e) ∙ ap (λ j. is_free (view_of m j)) s ∙ o.place.lowest_free.passes))
    go (Err x) q u = rw u

-- a call that names another lot leaves this one
pub drop_elsewhere : {m m' : List ℕ} {lots number i : ℕ} (lot : ℕ) {r : Result (Unit {0}) Refusal} → Dropped m m' lots i number r → lot ≢ i → lot_of m' lot ≡ lot_of m lot
drop_elsewhere {m} {m'} {lots} {number} {i} lot {r} w d = go r w.freed
  where
    go : (r : Result (Unit {0}) Refusal) → Freed m m' i r → lot_of m' lot ≡ lot_of m lot
    go (Ok _) u = others_stay u.0 lot d
    go (Err x) u = rw u

pub deliver_elsewhere : {m m' : List ℕ} {lots number i : ℕ} (lot : ℕ) {bytes : List ℕ} {r : Result (Unit {0}) Refusal} → Delivered m m' lots i number bytes r → lot ≢ i → lot_of m' lot ≡ lot_of m lot
deliver_elsewhere {m} {m'} {lots} {number} {i} lot {bytes} {r} w d = go r w.taken
  where
    go : (r : Result (Unit {0}) Refusal) → TakenBy m m' i bytes r → lot_of m' lot ≡ lot_of m lot
    go (Ok _) u = others_stay u.0 lot d
    go (Err x) u = rw u

-- ---- close: its answer, the account that it leaves and what it writes in the list go by the own lot

module _ {lots lot : ℕ} {m₁ m₂ : List ℕ} (s : SameLot lots lot m₁ m₂) where
  pub close_same : (number : ℕ) (list : List ℕ) → close_answer m₁ lots lot number list ≡ close_answer m₂ lots lot number list
  unfolding close_answer
  close_same number list = rw (named_same s number)

  pub closes_alike : {number : ℕ} {m₁' m₂' list list₁ list₂ : List ℕ} {r₁ r₂ : Result ℕ Refusal}
      → EpochClosed m₁ m₁' lots lot number list list₁ r₁ → EpochClosed m₂ m₂' lots lot number list list₂ r₂ → ClosedAlike lot m₁' m₂' list₁ list₂ r₁ r₂
  closes_alike {number} = closed_alike (sym (named_same s number)) (sym (view s))

pub close_elsewhere : {m m' : List ℕ} {lots number i : ℕ} (lot : ℕ) {list list' : List ℕ} {r : Result ℕ Refusal} → EpochClosed m m' lots i number list list' r → lot ≢ i → lot_of m' lot ≡ lot_of m lot
close_elsewhere {m} {m'} {lots} {number} {i} lot {list} {list'} {r} w d = go r w.closed
  where
    go : (r : Result ℕ Refusal) → ClosedAs m m' i list list' r → lot_of m' lot ≡ lot_of m lot
    go (Ok count) u = others_stay u.0 lot d
    go (Err x) u = rw u.0
