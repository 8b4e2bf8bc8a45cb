-- Where the entries before fit, comparing with the last one compares with all: the test goes place by place. Assumes nothing.
use Prim.Native.Nat.{ℕ, zero, suc, ◌+◌, ◌*◌, ◌<◌, ◌≤◌}
use mathlib.Core.Path.{◌≡◌, refl, sym, ap, subst, ◌∙◌}
use mathlib.Core.Bool.{Bool, true, false, ◌&&◌, ◌||◌, and-true, and-false, and_assoc}
use mathlib.Core.List.{List, [], ◌∷◌, ◌++◌}
use native.Mathlib.Numerals.{add-one}
use native.Mathlib.Omega.{arith}
use native.Mathlib.Decide.{dec_lt, ℕ_discrete}
use borrow.Author.Tests.{eq-eqb, ne_eqb, leb-true, le-leb, lt-leb, lt-ltb, le-ltb}
use lib.Dec.{leb, ltb, eqb}
use lib.ListN.{length, drop}
use Rattle.model.specs.Lists.{all, every}
use Rattle.model.specs.Image.{Item}
use Rattle.model.specs.Stages.{stage}
use Rattle.model.specs.Accepting.{entry_fits, follows}
use Rattle.model.specs.Decoding.{item_of, parse, mine, counters_at, item_fits, held_fits}
use Rattle.model.specs.declared.Counters.{Counters}
use Rattle.model.proofs.Tests.{and, and_l, and_r, nth, all_snoc, all_weaken, every_append}
use Rattle.model.proofs.Forms.{mine_append, held_append}
use Rattle.model.specs.Section.{item_at, items, plain_place, plain, section_fits}
use Rattle.lookback.proofs.Places.{parse_more, stage_last}
use Rattle.held.specs.Place.{may_follow, in_order, place_fits}

-- ---- comparing with the last entry

-- the entries before e are of streams not later, and those of its stream of no later epochs
abbrev in_order_all : List Item → Item → Bool
in_order_all before e = all (λ g. leb g.stream e.stream) before && all (λ g. leb g.epoch e.entry.epoch) (mine e.stream before)

mine_none : (s i : ℕ) (xs : List Item) → s < i → all (λ g. leb g.stream s) xs ≡ true → mine i xs ≡ []
unfolding mine all
mine_none s i [] l a = refl
mine_none s i (x ∷ xs) l a = rw (ne_eqb x.stream i (λ e. omega (arith, leb-true x.stream s (and_l (leb x.stream s) _ a)))) (mine_none s i xs l (and_r (leb x.stream s) _ a))

absorbed : (a x : Bool) → (x ≡ true → a ≡ true) → (a && x) ≡ x
absorbed a true f = rw (f refl)
absorbed a false f = and-false a

last_compared : (xs : List Item) (g e : Item) → in_order_all xs g ≡ true → in_order_all (xs ++ g ∷ []) e ≡ may_follow g e
unfolding may_follow all mine
last_compared xs g e w = go (dec_lt g.stream e.stream) (ℕ_discrete g.stream e.stream)
  where
    low : all (λ x. leb x.stream g.stream) (xs ++ g ∷ []) ≡ true
    low = all_snoc (λ x. leb x.stream g.stream) xs g ∙ and (and_l (all (λ x. leb x.stream g.stream) xs) _ w) (le-leb g.stream g.stream (omega arith))

    lower : g.stream ≤ e.stream → all (λ x. leb x.stream e.stream) (xs ++ g ∷ []) ≡ true
    lower l = all_weaken (λ x. leb x.stream g.stream) (λ x. leb x.stream e.stream) (λ x a. le-leb x.stream e.stream (omega (arith, leb-true x.stream g.stream a))) (xs ++ g ∷ []) low

    go : Dec (g.stream < e.stream) → Dec (g.stream ≡ e.stream) → in_order_all (xs ++ g ∷ []) e ≡ (ltb g.stream e.stream || eqb g.stream e.stream && leb g.entry.epoch e.entry.epoch)
    go (yes l) d = rw (lower (omega arith), mine_none g.stream e.stream (xs ++ g ∷ []) l low, lt-ltb g.stream e.stream l)
    go (no l) (yes q) =
        let same : mine e.stream (xs ++ g ∷ []) ≡ mine e.stream xs ++ g.entry ∷ [] = mine_append e.stream xs (g ∷ []) ∙ rw (eq-eqb g.stream e.stream q) in
        let past : all (λ x. leb x.epoch g.entry.epoch) (mine e.stream xs) ≡ true =
        subst (λ s. all (λ x. leb x.epoch g.entry.epoch) (mine s xs) ≡ true) q (and_r (all (λ x. leb x.stream g.stream) xs) _ w) in
        rw (lower (omega arith), same, all_snoc (λ x. leb x.epoch e.entry.epoch) (mine e.stream xs) g.entry, le-ltb g.stream e.stream (omega arith), eq-eqb g.stream e.stream q)
        (absorbed _ _ (λ u. all_weaken _ _ (λ x a. le-leb x.epoch e.entry.epoch (omega (arith, leb-true x.epoch g.entry.epoch a, leb-true g.entry.epoch e.entry.epoch u))) (mine e.stream xs) past))
    go (no l) (no q) =
        let above : all (λ x. leb x.stream e.stream) (xs ++ g ∷ []) ≡ false = all_snoc (λ x. leb x.stream e.stream) xs g ∙ rw (lt-leb g.stream e.stream (omega arith)) (and-false (all (λ x. leb x.stream e.stream) xs)) in
        rw (above, le-ltb g.stream e.stream (omega arith), ne_eqb g.stream e.stream q)

-- ---- one entry

-- the epochs of the entries before, compared apart
apart : (a e x y b : Bool) (r : List Bool) → every (a ∷ e ∷ every (x ∷ y ∷ b ∷ r) ∷ []) ≡ every ((a && b) ∷ e ∷ every (x ∷ y ∷ true ∷ r) ∷ [])
unfolding every
apart false e x y b r = refl
apart true e x y true r = refl
apart true e x y false r = rw (and-false y, and-false x) (and-false e)

module _ (k c : ℕ) (ss : List Counters) where
  item_apart : (xs : List Item) (e : Item) → item_fits k c ss xs e
      ≡ every (in_order_all xs e ∷ entry_fits (length ss) k e.stream e.entry ∷ follows c (counters_at ss e.stream).epoch [] (stage e.entry.transaction (mine e.stream xs)) e.entry ∷ [])
  unfolding item_fits follows all
  item_apart xs e = apart _ _ _ _ _ _

  held_more : (xs : List Item) (e : Item) → held_fits k c ss [] (xs ++ e ∷ []) ≡ (held_fits k c ss [] xs && item_fits k c ss xs e)
  unfolding held_fits
  held_more xs e = held_append k c ss [] xs (e ∷ []) ∙ rw and-true

  in_order_law : (h : List ℕ) (n : ℕ) → held_fits k c ss [] (items n h) ≡ true → in_order_all (items n h) (item_at h n) ≡ in_order h n
  unfolding in_order parse all mine
  in_order_law h zero w = refl
  in_order_law h (suc n) w =
      let g = item_at h n in
      let x = items n h in
      let fit : item_fits k c ss x g ≡ true = and_r (held_fits k c ss [] x) _ (sym (ap (held_fits k c ss []) (parse_more 20 item_of n h) ∙ held_more x g) ∙ w) in
      ap (λ y. in_order_all y (item_at h (suc n))) (parse_more 20 item_of n h) ∙ last_compared x g (item_at h (suc n)) (nth _ (sym (item_apart x g) ∙ fit) 0)

  -- ---- one place more

  pub section_more : (h : List ℕ) (n : ℕ) → section_fits k c ss (n + 1) h ≡ (section_fits k c ss n h && place_fits k c ss h n)
  unfolding section_fits place_fits every
  section_more h n =
      rw (add-one n, parse_more 20 plain_place n h, parse_more 20 item_of n h, every_append (parse n 20 plain_place h) (plain_place (drop (n * 20) h) ∷ []), held_more (items n h) (item_at h n))
      (go (held_fits k c ss [] (items n h)) refl)
    where
      go : (b : Bool) → held_fits k c ss [] (items n h) ≡ b → ((plain n h && (plain_place (drop (n * 20) h) && true)) && (b && item_fits k c ss (items n h) (item_at h n))) ≡ ((plain n h && b) && place_fits k c ss h n)
      go true w = rw (item_apart (items n h) (item_at h n), in_order_law h n w, stage_last h (item_at h n).stream (item_at h n).entry.transaction n) (simp (and_assoc, and-true))
      go false w = rw (and-false (plain n h), and-false (plain n h && (plain_place (drop (n * 20) h) && true)))
