-- What the calls learn from looks at lots is what the lots' views say. Assumes nothing.
use Rattle.std.specs.Prelude.{if◌then◌else◌, Option, Some, None, Err}
use Rattle.std.specs.Option.{option_or}
use Prim.Native.Nat.{ℕ, suc}
use mathlib.Core.Path.{◌≡◌, refl, sym}
use mathlib.Core.Bool.{Bool, true, false, ◌||◌}
use mathlib.Core.List.{List}
use lib.Dec.{eqb}
use Rattle.model.specs.Account.{refused, found}
use Rattle.model.specs.declared.Refusal.TheVariants.{NoSuchLot, NotThisAccount}
use Rattle.model.proofs.Tests.{if_ap}
use Rattle.lot.specs.Layout.{head_of}
use Rattle.lot.specs.View.{Lot, free, damaged, holds, view_lot, account_in}
use Rattle.lot.specs.Head.{numbers_of}
use Rattle.lot.specs.Look.{look_of, look_as, finding}
use Rattle.lot.proofs.Looked.{head_numbers_of}
use Rattle.lots.specs.Memory.{lot_fits, lot_of, view_of, named, is_free, is_damaged, some_below, lowest_below}
use Rattle.lots.specs.Looks.{look_from, looks_damaged, looks_free, finding_of, first_below, is_named, looks_named, survey_of, with_look}

look_is : (l : List ℕ) → look_of l ≡ look_from (view_lot l)
unfolding look_of
look_is l = go (view_lot l) refl
  where
    go : (v : Lot) → view_lot l ≡ v → look_as (numbers_of (head_of l)) v ≡ look_from v
    go free e = refl
    go damaged e = refl
    go (holds a) e = rw (head_numbers_of l e)

pub looks : (m : List ℕ) (i : ℕ) → look_of (lot_of m i) ≡ look_from (view_of m i)
unfolding view_of
looks m i = look_is (lot_of m i)

-- ---- a lot and an account are named

finding_is : (v : Lot) (number : ℕ) → finding (look_from v) number ≡ finding_of (account_in v number)
finding_is free number = refl
finding_is damaged number = refl
finding_is (holds a) number = sym (if_ap finding_of (eqb a.number number) (found a) (refused NotThisAccount))

module _ (m : List ℕ) (lots lot number : ℕ) where
  pub not_there : lot_fits lots lot m ≡ false → Err NoSuchLot ≡ finding_of (named m lots lot number)
  unfolding named
  not_there e = rw e

  pub finds : lot_fits lots lot m ≡ true → finding (look_of (lot_of m lot)) number ≡ finding_of (named m lots lot number)
  unfolding named
  finds e = rw (e, looks m lot) (finding_is (view_of m lot) number)

-- ---- all lots

first_more : (p : ℕ → Bool) (n : ℕ) → option_or (first_below p n) (if p n then Some n else None) ≡ first_below p (suc n)
unfolding some_below lowest_below
first_more p n = go (some_below p n) (p n)
  where
    go : (a b : Bool) → option_or (if a then Some (lowest_below p n) else None) (if b then Some n else None) ≡ (if a || b then Some (if a then lowest_below p n else n) else None)
    go true b = refl
    go false b = refl

seen : (account : Option ℕ) (v : Lot) → (looks_damaged (look_from v) ≡ is_damaged v) × (looks_named account (look_from v) ≡ is_named account v) × (looks_free (look_from v) ≡ is_free v)
seen None free = (refl, refl, refl)
seen None damaged = (refl, refl, refl)
seen None (holds a) = (refl, refl, refl)
seen (Some number) free = (refl, refl, refl)
seen (Some number) damaged = (refl, refl, refl)
seen (Some number) (holds a) = (refl, refl, refl)

pub survey_more : (m : List ℕ) (account : Option ℕ) (n : ℕ) → with_look (survey_of m account n) n (look_from (view_of m n)) account ≡ survey_of m account (suc n)
unfolding survey_of some_below
survey_more m account n = let s = seen account (view_of m n) in rw (← first_more (λ i. is_free (view_of m i)) n, s.0, s.1, s.2)
