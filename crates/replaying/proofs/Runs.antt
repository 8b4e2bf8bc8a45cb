-- A whole run: what the calls of the program write out is what the page says of the header and the entries. Assumes nothing.
use Prim.Native.Nat.{ℕ}
use mathlib.Core.Path.{◌≡◌, refl, ◌∙◌}
use mathlib.Core.Bool.{Bool, true, false, not}
use mathlib.Core.List.{List}
use native.Mathlib.Omega.{arith}
use borrow.Author.Tests.{eq-eqb}
use lib.ListN.{length}
use Rattle.std.specs.Prelude.{ltb, get_or, if◌then◌else◌, Result, Ok, Err}
use Rattle.wire.specs.Numbers.{number16}
use Rattle.model.proofs.Tests.{no_way}
use Rattle.model.specs.declared.Refusal.{Refusal}
use Rattle.model.specs.Lists.{every}
use Rattle.model.specs.Account.{Account, fresh, found}
use Rattle.model.specs.declared.Refusal.TheVariants.{UnfitAccount}
use Rattle.lot.specs.Layout.{SIZE}
use Rattle.lot.specs.View.{free}
use Rattle.lots.specs.Memory.{memory_fits, lot_fits, view_of, some_below, lowest_below, named}
use Rattle.standby.specs.Calls.{start_answer, Started, place_for, open_answer, OpenedAs}
use Rattle.replaying.specs.declared.Refused.{Refused}
use Rattle.replaying.specs.declared.Refused.TheVariants as refused
use Rattle.replaying.specs.declared.Header.{Header}
use Rattle.replaying.specs.Replaying.{refused_line, header_of, open_told, answer_to, HeaderOpened, account_text}
use Rattle.replaying.specs.Runs as runs
use Rattle.replaying.specs.Runs.{Steps, header_fits, account_of, Prints, EntriesCalls, Calls}
use Rattle.replaying.proofs.Steps.{entry_calls}

-- ---- the header

one_lot : (m : List ℕ) → length m ≡ SIZE → memory_fits 1 m ≡ true
unfolding memory_fits every
one_lot m long = rw long

-- a memory of one lot that was started is free
record Free (m : List ℕ) : Type 0 where
  pub long : length m ≡ SIZE
  pub empty : view_of m 0 ≡ free

started : (m m' : List ℕ) {r : Result (Unit {0}) Refusal} → length m ≡ SIZE → Started m m' 1 r → Free m'
unfolding start_answer
started m m' {r} long w =
    let done : r ≡ (Ok tt) = w.answer ∙ rw (one_lot m long) in
    let f = rw done at w.freed in
    record { long = f.long ∙ long; empty = f.each 0 (omega arith) }

abbrev opened_by : Bool → Result ℕ Refusal
opened_by b = if b then Ok 0 else Err UnfitAccount

-- there the account is opened in lot 0 where it fits, and refused by 15 where not
fresh_answer : (m : List ℕ) (h : Header) → Free m → answer_to m h ≡ opened_by (header_fits (Ok h))
unfolding open_answer place_for some_below lowest_below
fresh_answer m h f = rw (one_lot m f.long, f.empty) (go (header_fits (Ok h)))
  where
    go : (b : Bool) → ◌≡◌ {A = Result ℕ Refusal} (if not b then Err UnfitAccount else Ok 0) (opened_by b)
    go true = refl
    go false = refl

module _ (h : Header) where
  open_one : (m m' : List ℕ) {out : Result Header Refused} → Free m → HeaderOpened m m' (Ok h) out → (b : Bool) → header_fits (Ok h) ≡ b
      → OpenedAs m m' (account_of h) (opened_by b) × (out ≡ open_told h (opened_by b))
  open_one m m' f w b e = let s : answer_to m h ≡ opened_by b = fresh_answer m h f ∙ rw e in (rw s at w.opened.opened, rw s at w.told)

  open_named : (m m' : List ℕ) → Free m → OpenedAs m m' (account_of h) (Ok 0) → named m' 1 0 h.account ≡ found (account_of h)
  unfolding named lot_fits fresh
  open_named m m' f w = rw (one_lot m' (w.0.long ∙ f.long), w.1, eq-eqb h.account h.account refl)

-- a header that is none is refused by 15
no_header : (bytes : List ℕ) {r : Refusal} → header_of bytes ≡ Err r → r ≡ UnfitAccount
unfolding header_of
no_header bytes {r} e = go (ltb (length bytes) 4) e
  where
    go : (b : Bool) → ◌≡◌ {A = Result Header Refusal} (if b then Err UnfitAccount else Ok (record { account = number16 bytes 0; fragments = get_or bytes 2 0; keys = get_or bytes 3 0 })) (Err r) → r ≡ UnfitAccount
    go true p = cc
    go false p = no_way cc

-- ---- the entries

module _ (number : ℕ) where
  -- the page's steps of an account, and the lot afterwards
  pub record Led (i : ℕ) (entries : List (List ℕ)) (a : Account) (text m' : List ℕ) : Type 0 where
    pub account : Account
    pub steps : Steps i entries a text account
    pub there : named m' 1 0 number ≡ found account

  pub entries_calls : {i : ℕ} {entries : List (List ℕ)} {a : Account} {text m m' : List ℕ} → EntriesCalls number i entries m text m' → named m 1 0 number ≡ found a → Led i entries a text m'
  entries_calls {a = a} runs.nothing here = record { account = a; steps = runs.ended; there = here }
  entries_calls {i = i} (runs.entry {bytes = bytes} first rest) here =
      let s = entry_calls number i bytes first here in
      let l = entries_calls rest s.there in
      record { account = l.account; steps = runs.step s.step l.steps; there = l.there }

-- ---- the run

module _ (header : List ℕ) (entries : List (List ℕ)) where
  refused_prints : (m m' : List ℕ) {why : Refused} → Free m → (j : Result Header Refusal) → header_of header ≡ j → HeaderOpened m m' j (Err why) → Prints header entries (refused_line why)
  refused_prints m m' {why} f (Err r) e w =
      let p : why ≡ refused.Header r = cc (w.told) in
      rw (p, no_header header e) (runs.unfit (rw e))
  refused_prints m m' {why} f (Ok h) e w = go (header_fits (Ok h)) refl
    where
      go : (b : Bool) → header_fits (Ok h) ≡ b → Prints header entries (refused_line why)
      go true d = absurd (cc ((open_one h m m' f w true d).1))
      go false d = let p : why ≡ refused.Header UnfitAccount = cc ((open_one h m m' f w false d).1) in rw p (runs.unfit (rw e d))

  -- the account of the header is then in the lot
  record Opens (h : Header) (m' : List ℕ) : Type 0 where
    pub read : header_of header ≡ Ok h
    pub fits : header_fits (Ok h) ≡ true
    pub there : named m' 1 0 h.account ≡ found (account_of h)

  opens : (m m' : List ℕ) {h : Header} → Free m → (j : Result Header Refusal) → header_of header ≡ j → HeaderOpened m m' j (Ok h) → Opens h m'
  opens m m' f (Err r) e w = absurd (cc (w.told))
  opens m m' {h} f (Ok k) e w = go (header_fits (Ok k)) refl
    where
      go : (b : Bool) → header_fits (Ok k) ≡ b → Opens h m'
      go true d =
          let o = open_one k m m' f w true d in
          let same : h ≡ k = cc (o.1) in
          rw same (record { read = e; fits = d; there = open_named k m m' f o.0 })
      go false d = absurd (cc ((open_one k m m' f w false d).1))

  -- what the calls of the program write out is what the page says
  pub run_prints : {text : List ℕ} → Calls header entries text → Prints header entries text
  run_prints (runs.refused {m} {m'} {m''} long s w) = refused_prints m' m'' (started m m' long s) (header_of header) refl w
  run_prints (runs.opened {h} {m} {m'} {m''} {n} {text} {out} long s w es p) =
      let o = opens m' m'' (started m m' long s) (header_of header) refl w in
      let l = entries_calls h.account es o.there in
      let q : out ≡ account_text l.account = rw l.there at p in
      rw q (runs.whole o.read o.fits l.steps)
