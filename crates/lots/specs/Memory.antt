-- Lots in lent memory, and what a call finds there.
use Rattle.std.specs.Prelude.{ℕ, zero, suc, ◌+◌, ◌*◌, ◌<◌, ◌≡◌, Bool, true, false, not, ◌&&◌, ◌||◌, List, [], ◌∷◌, leb, ltb, eqb, length, take, drop, if◌then◌else◌}
use Rattle.model.specs.Lists.{every}
use Rattle.model.specs.Account.{Named, refused}
use Rattle.model.specs.declared.Refusal.TheVariants.{NoSuchLot}
use Rattle.lot.specs.Layout.{SIZE}
use Rattle.lot.specs.View.{Lot, free, damaged, holds, view_lot, account_in}

abbrev pub MOST_LOTS : ℕ
MOST_LOTS = 16

-- refusal 1: lot count not 1..16, memory not exactly that many lots, or no such lot
unfoldable pub memory_fits : ℕ → List ℕ → Bool
memory_fits lots m = every (leb 1 lots ∷ leb lots MOST_LOTS ∷ eqb (length m) (lots * SIZE) ∷ [])

unfoldable pub lot_fits : ℕ → ℕ → List ℕ → Bool
lot_fits lots lot m = memory_fits lots m && ltb lot lots

-- the bytes of lot i, and what they mean
abbrev pub lot_of : List ℕ → ℕ → List ℕ
lot_of m i = take SIZE (drop (i * SIZE) m)

unfoldable pub view_of : List ℕ → ℕ → Lot
view_of m i = view_lot (lot_of m i)

-- every byte before and after lot i stays
pub record OnlyLot (i : ℕ) (m m' : List ℕ) : Type 0 where
  pub long : length m' ≡ length m
  pub before : take (i * SIZE) m' ≡ take (i * SIZE) m
  pub behind : drop (i * SIZE + SIZE) m' ≡ drop (i * SIZE + SIZE) m

-- lot i has become v, and nothing else has changed
abbrev pub Becomes : ℕ → List ℕ → List ℕ → Lot → Type 0
Becomes i m m' v = OnlyLot i m m' × (view_of m' i ≡ v)

-- ---- 1, 2, 3: what a call that names a lot and an account finds

unfoldable pub named : List ℕ → ℕ → ℕ → ℕ → Named
named m lots lot number = if not (lot_fits lots lot m) then refused NoSuchLot else account_in (view_of m lot) number

-- ---- what a call that names no lot asks of all lots

abbrev pub is_damaged : Lot → Bool
is_damaged free = false
is_damaged damaged = true
is_damaged (holds a) = false

abbrev pub is_free : Lot → Bool
is_free free = true
is_free damaged = false
is_free (holds a) = false

abbrev pub is_of : ℕ → Lot → Bool
is_of number free = false
is_of number damaged = false
is_of number (holds a) = eqb a.number number

-- some number below n passes
unfoldable pub some_below : (ℕ → Bool) → ℕ → Bool
some_below p zero = false
some_below p (suc n) = some_below p n || p n

-- the lowest number below n that passes, where one does
unfoldable pub lowest_below : (ℕ → Bool) → ℕ → ℕ
lowest_below p zero = 0
lowest_below p (suc n) = if some_below p n then lowest_below p n else n

-- i is the lowest number below n that passes
pub record Lowest (p : ℕ → Bool) (n i : ℕ) : Type 0 where
  pub below : i < n
  pub passes : p i ≡ true
  pub first : (j : ℕ) → j < i → p j ≡ false
