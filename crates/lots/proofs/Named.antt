-- What follows where a call finds the account that it names, and where it is refused. Assumes nothing.
use Prim.Native.Nat.{ℕ, ◌≤◌}
use mathlib.Core.Path.{◌≡◌, refl, sym, ap, ◌∙◌}
use mathlib.Core.Bool.{Bool, true, false, not}
use mathlib.Core.List.{List}
use lib.Dec.{eqb}
use borrow.Author.Tests.{eqb-true, leb-true}
use Rattle.std.specs.Prelude.{if◌then◌else◌, Ok, Err}
use Rattle.model.specs.Account as model
use Rattle.model.specs.Account.{account_fits, Named, refused, found}
use Rattle.model.specs.declared.Refusal.{Refusal}
use Rattle.model.specs.declared.Refusal.TheVariants.{NoSuchLot, NotThisAccount}
use Rattle.model.proofs.Tests.{no_way, nth}
use Rattle.lot.specs.View.{Lot, free, damaged, holds, account_in}
use Rattle.lot.specs.declared.Account.{Account}
use Rattle.lot.proofs.Views.{holds_well_formed}
use Rattle.lots.specs.Memory.{lot_fits, lot_of, view_of, named}
use Rattle.lots.specs.Looks.{numbers_from, finding_of}

-- the account that a call finds
pub record Holder (m : List ℕ) (lots lot number : ℕ) (a : model.Account) : Type 0 where
  pub there : lot_fits lots lot m ≡ true
  pub held : view_of m lot ≡ holds a
  pub numbered : a.number ≡ number

module _ (m : List ℕ) (lots lot number : ℕ) where
  pub holder : {a : model.Account} → named m lots lot number ≡ found a → Holder m lots lot number a
  unfolding named
  holder {a} e = go (lot_fits lots lot m) (view_of m lot) refl refl e
    where
      mine : (b : model.Account) (t : Bool) → eqb b.number number ≡ t → lot_fits lots lot m ≡ true → view_of m lot ≡ holds b → (if t then found b else refused NotThisAccount) ≡ found a → Holder m lots lot number a
      mine b true x y z e = let s : b ≡ a = cc in record { there = y; held = z ∙ ap holds s; numbered = sym (ap (λ c. c.number) s) ∙ eqb-true b.number number x }
      mine b false x y z e = no_way cc

      go : (t : Bool) (v : Lot) → lot_fits lots lot m ≡ t → view_of m lot ≡ v → (if not t then refused NoSuchLot else account_in v number) ≡ found a → Holder m lots lot number a
      go false v x y e = no_way cc
      go true free x y e = no_way cc
      go true damaged x y e = no_way cc
      go true (holds b) x y e = mine b (eqb b.number number) refl x y e

  pub finding_refused : {r : Refusal} → finding_of (named m lots lot number) ≡ Err r → named m lots lot number ≡ refused r
  finding_refused {r} e = go (named m lots lot number) e
    where
      go : (n : Named) → finding_of n ≡ Err r → n ≡ refused r
      go (refused s) e = cc
      go (found a) e = no_way cc

  -- the account that `find` found, of which n are the numbers
  pub record FoundHere (n : Account) : Type 0 where
    pub account : model.Account
    pub is_named : named m lots lot number ≡ found account
    pub here : Holder m lots lot number account
    pub numbers : n ≡ numbers_from account

  pub finding_found : {n : Account} → finding_of (named m lots lot number) ≡ Ok n → FoundHere n
  finding_found {n} e = go (named m lots lot number) refl e
    where
      go : (x : Named) → named m lots lot number ≡ x → finding_of x ≡ Ok n → FoundHere n
      go (refused s) q e = no_way cc
      go (found a) q e = record { account = a; is_named = q; here = holder q; numbers = cc }

-- the limits of an account that a lot holds
pub held_fits_law : (m : List ℕ) (lot : ℕ) {a : model.Account} → view_of m lot ≡ holds a → (a.fragments ≤ model.MOST_FRAGMENTS) × (a.keys ≤ model.MOST_KEYS)
unfolding view_of account_fits
held_fits_law m lot {a} e = let w = (holds_well_formed (lot_of m lot) e).fits in (leb-true a.fragments 8 (nth _ w 3), leb-true a.keys 128 (nth _ w 5))
