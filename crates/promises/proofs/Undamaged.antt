-- No call damages a lot: whatever the calls leave passes the test. Assumes nothing.
use Rattle.std.specs.Prelude.{Result, Ok, Err}
use Prim.Native.Nat.{ℕ, ◌*◌, ◌<◌}
use mathlib.Core.Path.{◌≡◌, refl, sym, ap, ◌∙◌}
use mathlib.Core.Bool.{false}
use mathlib.Core.List.{List}
use native.Mathlib.Omega.{arith}
use native.Mathlib.Decide.{ℕ_discrete, dec_lt}
use lib.ListN.{length}
use Rattle.model.specs.Account.{Named, refused, found}
use Rattle.model.specs.Taking.{deliver_to}
use Rattle.model.specs.Closing.{close_from}
use Rattle.model.proofs.Tests.{no_way}
use Rattle.model.specs.declared.Refusal.{Refusal}
use Rattle.lot.specs.Layout.{SIZE}
use Rattle.lot.specs.View.{Lot, damaged, view_lot}
use Rattle.lots.specs.Memory.{lot_of, view_of, Becomes, named, is_damaged}
use Rattle.lots.proofs.Named.{holder}
use Rattle.lots.proofs.Parts.{others_stay, memory_long}
use Rattle.standby.specs.Calls.{Started, deliver_answer, TakenBy, Delivered}
use Rattle.standby.specs.Closing.{close_answer, ClosedAs, EpochClosed}
use Rattle.promises.specs.Runs.{Call, Reply, Step, starts, opens, delivers, closes, reads, saves, loads, drops, overviews, Turn, Run, ends, goes}
use Rattle.promises.proofs.Placing.{loaded_placed}
use Rattle.promises.proofs.Determined.{no_lot, started_fits}

-- a lot that is damaged afterwards was damaged before
abbrev DamagedBefore : ℕ → List ℕ → List ℕ → Type 0
DamagedBefore i m m' = view_of m' i ≡ damaged → view_of m i ≡ damaged

module _ {m m' : List ℕ} (i : ℕ) where
  unchanged : m' ≡ m → DamagedBefore i m m'
  unchanged e d = sym (ap (λ l. view_of l i) e) ∙ d

  undamaged_there : {j : ℕ} {v : Lot} → Becomes j m m' v → is_damaged v ≡ false → DamagedBefore i m m'
  unfolding view_of
  undamaged_there {j} {v} w good d = go (ℕ_discrete i j)
    where
      go : Dec (i ≡ j) → view_lot (lot_of m i) ≡ damaged
      go (yes e) = no_way (sym good ∙ ap is_damaged (sym w.1 ∙ sym (ap (λ k. view_lot (lot_of m' k)) e) ∙ d))
      go (no e) = ap view_lot (sym (others_stay w.0 i e)) ∙ d

  start_damages_none : {lots : ℕ} → Started m m' lots (Ok tt) → DamagedBefore i m m'
  unfolding view_of
  start_damages_none {lots} w d =
      let long : length m ≡ lots * SIZE = memory_long lots m (started_fits w) in
      go long (w.freed.long ∙ long) (dec_lt i lots)
    where
      go : length m ≡ lots * SIZE → length m' ≡ lots * SIZE → Dec (i < lots) → view_lot (lot_of m i) ≡ damaged
      go l l' (yes h) = no_way (ap is_damaged (sym (w.freed.each i h) ∙ d))
      go l l' (no h) = ap view_lot (no_lot m lots i l (omega arith) ∙ sym (no_lot m' lots i l' (omega arith))) ∙ d

  module _ {lots lot number : ℕ} where
    deliver_damages_none : {entry : List ℕ} {r : Result (Unit {0}) Refusal} → Delivered m m' lots lot number entry r → DamagedBefore i m m'
    unfolding deliver_answer
    deliver_damages_none {entry} {r} w = go r (named m lots lot number) refl w.answer w.taken
      where
        go : (r : Result (Unit {0}) Refusal) (n : Named) → named m lots lot number ≡ n → r ≡ deliver_to n entry → TakenBy m m' lot entry r → DamagedBefore i m m'
        go (Ok _) (refused s) q e u = no_way cc
        go (Ok _) (found a) q e u = undamaged_there (u.0, u.1 a (holder m lots lot number q).held) refl
        go (Err s) n q e u = unchanged u

    close_damages_none : {list list' : List ℕ} {r : Result ℕ Refusal} → EpochClosed m m' lots lot number list list' r → DamagedBefore i m m'
    unfolding close_answer
    close_damages_none {list} {list'} {r} w = go r (named m lots lot number) refl w.answer w.closed
      where
        go : (r : Result ℕ Refusal) (n : Named) → named m lots lot number ≡ n → r ≡ close_from n (length list) → ClosedAs m m' lot list list' r → DamagedBefore i m m'
        go (Ok count) (refused s) q e u = no_way cc
        go (Ok count) (found a) q e u = undamaged_there (u.0, (u.1 a (holder m lots lot number q).held).0) refl
        go (Err s) n q e u = unchanged u.0

pub none_damages : {m m' : List ℕ} {c : Call} {r : Reply} (i : ℕ) → Step m c r m' → view_of m' i ≡ damaged → view_of m i ≡ damaged
none_damages i (starts {r = (Ok tt)} w) = start_damages_none i w
none_damages i (starts {r = Err s} w) = unchanged i w.freed
none_damages i (opens {r = Ok j} w) = undamaged_there i w.opened refl
none_damages i (opens {r = Err s} w) = unchanged i w.opened
none_damages i (delivers w) = deliver_damages_none i w
none_damages i (closes w) = close_damages_none i w
none_damages i (reads w) = λ d. d
none_damages i (saves w) = λ d. d
none_damages {m} i (loads {lots = lots} {given = given} {r = Ok j} w) = let p = loaded_placed m lots given w.answer in undamaged_there i (w.loaded p.account p.shown) refl
none_damages i (loads {r = Err s} w) = unchanged i w.loaded
none_damages i (drops {r = (Ok tt)} w) = undamaged_there i w.freed refl
none_damages i (drops {r = Err s} w) = unchanged i w.freed
none_damages i (overviews w) = λ d. d

pub run_damages_none : {m m' : List ℕ} {ts : List Turn} (i : ℕ) → Run m ts m' → view_of m' i ≡ damaged → view_of m i ≡ damaged
run_damages_none i ends = λ d. d
run_damages_none i (goes s rest) = λ d. none_damages i s (run_damages_none i rest d)
