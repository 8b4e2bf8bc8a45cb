-- What a held section that fits shows: each place fits, its stream is below f, and the streams' entries are as many as the places. Assumes nothing.
use Prim.Native.Nat.{ℕ, zero, suc, ◌+◌, ◌<◌}
use mathlib.Core.Path.{◌≡◌, refl, sym, ap, ◌∙◌, fun_ext}
use mathlib.Core.Bool.{Bool, true, false, ◌&&◌}
use mathlib.Core.List.{List, [], map}
use native.Mathlib.Numerals.{add-one}
use native.Mathlib.Omega.{arith}
use native.Mathlib.Decide.{dec_lt}
use borrow.Author.Tests.{ltb-true}
use lib.ListN.{length, length-map}
use Rattle.model.specs.Lists.{sum_below}
use Rattle.model.specs.Entry.{in_account}
use Rattle.model.specs.Accepting.{entry_fits}
use Rattle.model.specs.Decoding.{item_of, mine, held_fits}
use Rattle.model.specs.declared.Counters.{Counters}
use Rattle.model.proofs.Tests.{and_l, and_r, nth}
use Rattle.model.proofs.Buckets.{length_upward}
use Rattle.model.proofs.Shows.{item, by_streams, held_rising}
use Rattle.model.specs.Section.{item_at, items, plain, section_fits}
use Rattle.lookback.proofs.Places.{length_parse}
use Rattle.held.specs.Place.{place_fits}
use Rattle.held.proofs.Order.{section_more}

pub items_length : (n : ℕ) (h : List ℕ) → length (items n h) ≡ n
items_length n h = length_parse 20 item_of n h

module _ (k c : ℕ) (ss : List Counters) (h : List ℕ) where
  pub section_held : (n : ℕ) → section_fits k c ss n h ≡ true → held_fits k c ss [] (items n h) ≡ true
  unfolding section_fits
  section_held n w = and_r (plain n h) _ w

  pub place_fits_law : (n : ℕ) → section_fits k c ss n h ≡ true → (i : ℕ) → i < n → place_fits k c ss h i ≡ true
  place_fits_law zero w i l = absurd (omega arith)
  place_fits_law (suc n) w i l = go (dec_lt i n) (place_fits_law n (and_l (section_fits k c ss n h) _ both) i)
    where
      both : (section_fits k c ss n h && place_fits k c ss h n) ≡ true
      both = sym (section_more k c ss h n) ∙ ap (λ m. section_fits k c ss m h) (add-one n) ∙ w

      go : Dec (i < n) → (i < n → place_fits k c ss h i ≡ true) → place_fits k c ss h i ≡ true
      go (yes u) ih = ih u
      go (no u) ih = let e : i ≡ n = omega arith in rw e (and_r (section_fits k c ss n h) _ both)

  pub unfit_place : (n i : ℕ) → i < n → place_fits k c ss h i ≡ false → section_fits k c ss n h ≡ false
  unfit_place n i l u = go (section_fits k c ss n h) refl
    where
      go : (b : Bool) → section_fits k c ss n h ≡ b → section_fits k c ss n h ≡ false
      go true w = w ∙ sym (place_fits_law n w i l) ∙ u
      go false w = w

  pub stream_within : (n : ℕ) → section_fits k c ss n h ≡ true → (i : ℕ) → i < n → (item_at h i).stream < length ss
  unfolding place_fits entry_fits in_account
  stream_within n w i l = ltb-true (item_at h i).stream (length ss) (nth _ (nth _ (nth _ (place_fits_law n w i l) 2) 2) 0)

  pub held_total : (n : ℕ) → section_fits k c ss n h ≡ true → sum_below (λ i. length (mine i (items n h))) (length ss) ≡ n
  unfolding sum_below
  held_total n w =
      let f = length ss in
      let es = items n h in
      let z : 0 + f ≡ f = omega arith in
      let back = by_streams f es (held_rising k c ss 0 [] es (λ e a. omega arith) (section_held n w)) in
      omega (arith, rw z at (length_upward f 0 (λ i. map (item i) (mine i es))), ap length back, items_length n h, ap (λ g. sum_below g f) (fun_ext (λ i. length-map (mine i es) (item i))))
