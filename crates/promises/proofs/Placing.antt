-- Open and load answer a lot that there is, and that was free. Assumes nothing.
use Prim.Native.Nat.{ℕ, ◌<◌}
use mathlib.Core.Path.{◌≡◌, refl, sym}
use mathlib.Core.Bool.{Bool, true, false, not}
use mathlib.Core.List.{List}
use Rattle.std.specs.Prelude.{if◌then◌else◌, Option, Some, None, Ok, Err}
use Rattle.model.specs.Account.{Account, account_fits}
use Rattle.model.specs.Decoding.{load}
use Rattle.model.specs.declared.Refusal.TheVariants.{NoSuchLot, Damaged, AlreadyOpen, NoFreeLot, UnfitAccount}
use Rattle.model.proofs.Tests.{no_way}
use Rattle.lots.specs.Memory.{memory_fits, view_of, is_free, is_damaged, is_of, some_below, lowest_below}
use Rattle.lots.proofs.Lowest.{lowest}
use Rattle.standby.specs.Calls.{place_for, open_answer}
use Rattle.standby.specs.Images.{load_from, load_answer}

-- where account `number` is put
pub record Placed (m : List ℕ) (lots number i : ℕ) : Type 0 where
  pub fits : memory_fits lots m ≡ true
  pub there : i < lots
  pub was_free : is_free (view_of m i) ≡ true

module _ (m : List ℕ) (lots : ℕ) where
  placed : {i : ℕ} (number : ℕ) → memory_fits lots m ≡ true → place_for m lots number ≡ Ok i → Placed m lots number i
  unfolding place_for
  placed {i} number fit e = go (some_below (λ j. is_of number (view_of m j)) lots) (some_below (λ j. is_free (view_of m j)) lots) refl e
    where
      go : (known some : Bool) → some_below (λ j. is_free (view_of m j)) lots ≡ some
          → (if known then Err AlreadyOpen else if some then Ok (lowest_below (λ j. is_free (view_of m j)) lots) else Err NoFreeLot) ≡ Ok i → Placed m lots number i
      go true b q e = no_way cc
      go false false q e = no_way cc
      go false true q e =
          let w = lowest (λ j. is_free (view_of m j)) lots q in
          let s : lowest_below (λ j. is_free (view_of m j)) lots ≡ i = cc in
          rw (← s) (record { fits = fit; there = w.below; was_free = w.passes })

  pub opened_placed : {i : ℕ} (number f k : ℕ) → Ok i ≡ open_answer m lots number f k → Placed m lots number i × (account_fits number f k ≡ true)
  unfolding open_answer
  opened_placed {i} number f k e = go (memory_fits lots m) (some_below (λ j. is_damaged (view_of m j)) lots) (account_fits number f k) refl refl e
    where
      go : (t d u : Bool) → memory_fits lots m ≡ t → account_fits number f k ≡ u
          → Ok i ≡ (if not t then Err NoSuchLot else if d then Err Damaged else if not u then Err UnfitAccount else place_for m lots number) → Placed m lots number i × (account_fits number f k ≡ true)
      go false d u p q e = no_way cc
      go true true u p q e = no_way cc
      go true false false p q e = no_way cc
      go true false true p q e = (placed number p (sym e), q)

  -- the data show an account, and it is put there
  pub record Loading (given : List ℕ) (i : ℕ) : Type 0 where
    pub account : Account
    pub shown : load given ≡ Some account
    pub place : Placed m lots account.number i

  pub loaded_placed : {i : ℕ} (given : List ℕ) → Ok i ≡ load_answer m lots given → Loading given i
  unfolding load_answer
  loaded_placed {i} given e = go (memory_fits lots m) (some_below (λ j. is_damaged (view_of m j)) lots) (load given) refl refl e
    where
      go : (t d : Bool) (x : Option Account) → memory_fits lots m ≡ t → load given ≡ x
          → Ok i ≡ (if not t then Err NoSuchLot else if d then Err Damaged else load_from m lots x) → Loading given i
      go false d x p q e = no_way cc
      go true true x p q e = no_way cc
      go true false None p q e = no_way cc
      go true false (Some b) p q e = record { account = b; shown = q; place = placed b.number p (sym e) }
