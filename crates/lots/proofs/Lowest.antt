-- The lowest number that passes: it is below the end, it passes, and none before it does. Assumes nothing.
use Prim.Native.Nat.{ℕ, zero, suc, ◌<◌}
use mathlib.Core.Path.{◌≡◌, refl}
use mathlib.Core.Bool.{Bool, true, false, ◌||◌, or-true}
use native.Mathlib.Omega.{arith}
use native.Mathlib.Decide.{dec_lt}
use Rattle.std.specs.Prelude.{if◌then◌else◌}
use Rattle.model.proofs.Tests.{no_way}
use Rattle.lots.specs.Memory.{some_below, lowest_below, Lowest}

module _ (p : ℕ → Bool) where
  pub none_below : (n : ℕ) → some_below p n ≡ false → (j : ℕ) → j < n → p j ≡ false
  unfolding some_below
  none_below zero e j h = absurd (omega arith)
  none_below (suc n) e j h = go (some_below p n) (p n) refl refl e (dec_lt j n) (none_below n)
    where
      go : (a b : Bool) → some_below p n ≡ a → p n ≡ b → (a || b) ≡ false → Dec (j < n) → (some_below p n ≡ false → (j : ℕ) → j < n → p j ≡ false) → p j ≡ false
      go true b x y z d ih = no_way cc
      go false b x y z (yes l) ih = ih x j l
      go false b x y z (no l) ih = let w : j ≡ n = omega arith in rw w cc

  pub none_passes : (n : ℕ) → ((j : ℕ) → j < n → p j ≡ false) → some_below p n ≡ false
  unfolding some_below
  none_passes zero h = refl
  none_passes (suc n) h = rw (none_passes n (λ j l. h j (omega arith)), h n (omega arith))

  pub one_passes : (n j : ℕ) → j < n → p j ≡ true → some_below p n ≡ true
  unfolding some_below
  one_passes zero j h e = absurd (omega arith)
  one_passes (suc n) j h e = go (dec_lt j n) (one_passes n j)
    where
      go : Dec (j < n) → (j < n → p j ≡ true → some_below p n ≡ true) → (some_below p n || p n) ≡ true
      go (yes l) ih = rw (ih l e)
      go (no l) ih = let w : n ≡ j = omega arith in rw (w, e, or-true)

  pub lowest : (n : ℕ) → some_below p n ≡ true → Lowest p n (lowest_below p n)
  unfolding some_below lowest_below
  lowest zero e = no_way e
  lowest (suc n) e = go (some_below p n) refl e (lowest n)
    where
      go : (b : Bool) → some_below p n ≡ b → (b || p n) ≡ true → (some_below p n ≡ true → Lowest p n (lowest_below p n)) → Lowest p (suc n) (if b then lowest_below p n else n)
      go true x z ih = let w = ih x in record { below = omega arith; passes = w.passes; first = w.first }
      go false x z ih = record { below = omega arith; passes = z; first = none_below n x }
