-- Laws of sums over the numbers below a bound. Assumes nothing.
use Prim.Native.Nat.{ℕ, zero, suc, ◌<◌, ◌≤◌}
use mathlib.Core.Path.{◌≡◌, refl}
use mathlib.Core.Logic.{⊎_elim}
use native.Mathlib.Omega.{arith}
use lib.Dec.{eqb}
use borrow.Author.Tests.{eqb-true, eqb-false}
use Rattle.model.specs.Lists.{sum_below}
use Rattle.model.proofs.Tests.{by_cases}

module _ (g h : ℕ → ℕ) where
  pub sum_same : (n : ℕ) → ((i : ℕ) → i < n → h i ≡ g i) → sum_below h n ≡ sum_below g n
  unfolding sum_below
  sum_same zero e = refl
  sum_same (suc n) e = rw (sum_same n (λ i q. e i (omega arith)), e n (omega arith))

  pub sum_most : (n : ℕ) → ((i : ℕ) → i < n → h i ≤ g i) → sum_below h n ≤ sum_below g n
  unfolding sum_below
  sum_most zero e = omega arith
  sum_most (suc n) e = omega (arith, sum_most n (λ i q. e i (omega arith)), e n (omega arith))

  -- one more in one place
  pub sum_one : (x n : ℕ) → h x ≡ suc (g x) → ((i : ℕ) → (x ≡ i → ⊥) → h i ≡ g i) → x < n → sum_below h n ≡ suc (sum_below g n)
  unfolding sum_below
  sum_one x zero e f q = omega arith
  sum_one x (suc n) e f q =
      ⊎_elim
      (λ b. let w = eqb-true x n b in omega (arith, sum_same n (λ i k. f i (λ z. omega arith)), rw w at e))
      (λ b. let w = eqb-false x n b in let lt : x < n = omega arith in omega (arith, sum_one x n e f lt, f n w))
      (by_cases (eqb x n))

pub sum_none : (n : ℕ) → sum_below (λ i. 0) n ≡ 0
unfolding sum_below
sum_none zero = refl
sum_none (suc n) = rw (sum_none n)
