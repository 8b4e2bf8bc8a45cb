-- How often the epoch of the lot's account can still be closed, at most: after each close that is told it is less. Assumes nothing.
use Prim.Native.Nat.{ℕ, suc, ◌-◌, ◌<◌}
use mathlib.Core.Path.{◌≡◌, refl}
use mathlib.Core.List.{List}
use borrow.Author.Tests.{leb-true}
use native.Mathlib.Omega.{arith}
use Rattle.std.specs.Prelude.{Some}
use Rattle.model.specs.Account.{Account, account_fits, Named, refused, found}
use Rattle.model.specs.Closing.{close, settle}
use Rattle.model.proofs.Judged.{all_marked}
use Rattle.model.proofs.Tests.{nth}
use Rattle.lot.specs.View.{holds}
use Rattle.lot.proofs.Views.{holds_well_formed}
use Rattle.lots.specs.Memory.{lot_of, view_of, named}
use Rattle.lots.proofs.Named.{holder}
use Rattle.replaying.specs.Replaying.{NextClosed}
use Rattle.replaying.proofs.Steps.{told}

left_of : Named → ℕ
left_of (refused r) = 0
left_of (found a) = (a.at 0).counters.epoch - a.closed

pub epochs_left : List ℕ → ℕ → ℕ
epochs_left m number = left_of (named m 1 0 number)

some_fragment : (m : List ℕ) {a : Account} → view_of m 0 ≡ holds a → 0 < a.fragments
unfolding view_of account_fits
some_fragment m {a} e = leb-true 1 a.fragments (nth _ (holds_well_formed (lot_of m 0) e).fits 2)

module _ (number : ℕ) (m m' : List ℕ) {out : List ℕ} (w : NextClosed m m' number (Some out)) where
  epochs_closed : (a : Account) → left_of (found (close a)) ≡ (a.at 0).counters.epoch - suc a.closed
  unfolding left_of close settle
  epochs_closed a = refl

  pub fewer_left : epochs_left m' number < epochs_left m number
  unfolding epochs_left left_of
  fewer_left = go (named m 1 0 number) refl
    where
      go : (n : Named) → named m 1 0 number ≡ n → epochs_left m' number < left_of n
      go (refused r) e = absurd (cc (rw e at w.printed))
      go (found a) e =
          let t = told number m m' e w in
          let s = all_marked a t.judged 0 (some_fragment m (holder m 1 0 number e).held) in
          rw (t.there, epochs_closed a) (omega arith)
