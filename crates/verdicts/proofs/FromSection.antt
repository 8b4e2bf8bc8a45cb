-- A held section that fits an account is orderly. Assumes nothing.
use Prim.Native.Nat.{ℕ, suc, ◌≤◌, ◌<◌}
use mathlib.Core.Path.{◌≡◌}
use mathlib.Core.Logic.{⊎_elim}
use mathlib.Core.Bool.{true, not}
use mathlib.Core.List.{List}
use native.Mathlib.Omega.{arith}
use borrow.Author.Tests.{eq-eqb, ltb-true}
use lib.Dec.{ltb, eqb}
use lib.ListN.{length}
use Rattle.model.specs.Entry.{P, in_account}
use Rattle.model.specs.Accepting.{entry_fits, follows}
use Rattle.model.specs.declared.Counters.{Counters}
use Rattle.model.proofs.Tests.{no_way, either, nth}
use Rattle.model.specs.Section.{item_at, section_fits}
use Rattle.held.specs.Place.{in_order, place_fits}
use Rattle.held.proofs.Section.{place_fits_law}
use Rattle.verdicts.specs.Orderly.{Orderly}

module _ (k c : ℕ) (ss : List Counters) (h : List ℕ) (n : ℕ) (few : length ss ≤ 8) (small : k ≤ 128) (w : section_fits k c ss n h ≡ true) where
  inside : (i : ℕ) → i < n → in_account (length ss) k (item_at h i).entry.kind (item_at h i).stream (item_at h i).entry.argument ≡ true
  unfolding place_fits entry_fits
  inside i l = nth _ (nth _ (place_fits_law k c ss h n w i l) 2) 2

  pub orderly : Orderly h n
  unfolding place_fits follows in_order in_account
  orderly = record {
    taken = λ i l. nth _ (nth _ (place_fits_law k c ss h n w i l) 3) 3;
    rising = λ i l. nth _ (place_fits_law k c ss h n w (suc i) l) 1;
    streams = λ i l. omega (arith, ltb-true (item_at h i).stream (length ss) (nth _ (inside i l) 0));
    keys = λ i l u. ⊎_elim (λ (a : ltb 2 (item_at h i).entry.kind ≡ true). absurd (omega (arith, ltb-true 2 (item_at h i).entry.kind a))) (λ (a : ltb (item_at h i).entry.argument k ≡ true). omega (arith, ltb-true (item_at h i).entry.argument k a)) (either _ _ (nth _ (inside i l) 1));
    coordinators = λ i l u.
        ⊎_elim (λ (a : not (eqb (item_at h i).entry.kind P) ≡ true). no_way (rw (eq-eqb (item_at h i).entry.kind P u) at a)) (λ (a : ltb (item_at h i).entry.argument (length ss) ≡ true). omega (arith, ltb-true (item_at h i).entry.argument (length ss) a))
        (either _ _ (nth _ (inside i l) 2));
  }
