-- What the other pages share: tests and sums over lists and numbers.
use Rattle.std.specs.Prelude.{ℕ, zero, suc, ◌+◌, ◌*◌, ◌^◌, Bool, true, false, ◌&&◌, ◌||◌, List, [], ◌∷◌, ◌++◌, if◌then◌else◌}

module _ {X : Type 0} where
  -- those that pass, in their order
  unfoldable pub filter : (X → Bool) → List X → List X
  filter p [] = []
  filter p (x ∷ xs) = if p x then x ∷ filter p xs else filter p xs

  unfoldable pub any : (X → Bool) → List X → Bool
  any p [] = false
  any p (x ∷ xs) = p x || any p xs

  unfoldable pub all : (X → Bool) → List X → Bool
  all p [] = true
  all p (x ∷ xs) = p x && all p xs

  -- p i, p (i + 1), .. one after the other, c of them
  unfoldable pub upward : ℕ → ℕ → (ℕ → List X) → List X
  upward zero i p = []
  upward (suc c) i p = p i ++ upward c (suc i) p

-- each condition of a list holds
unfoldable pub every : List Bool → Bool
every [] = true
every (b ∷ bs) = b && every bs

-- the sum of g 0, g 1, .. below n
unfoldable pub sum_below : (ℕ → ℕ) → ℕ → ℕ
sum_below g zero = 0
sum_below g (suc n) = sum_below g n + g n

abbrev pub one : Bool → ℕ
one true = 1
one false = 0

-- how many numbers below n pass
abbrev pub count_below : (ℕ → Bool) → ℕ → ℕ
count_below p n = sum_below (λ i. one (p i)) n

-- the number whose bit i is set where i passes, for i below n
unfoldable pub bits_of : (ℕ → Bool) → ℕ → ℕ
bits_of p zero = 0
bits_of p (suc n) = one (p n) * 2 ^ n + bits_of p n
