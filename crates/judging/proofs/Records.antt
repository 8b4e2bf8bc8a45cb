-- The test of an image's records, one by one: it passes exactly if the zero bytes are zero and the records that are read fit. Assumes nothing.
use Prim.Native.Nat.{ℕ, zero, suc, ◌+◌, ◌*◌, ◌-◌, ◌<◌, ◌≤◌}
use mathlib.Core.Path.{◌≡◌, refl, sym, ap, ◌∙◌}
use mathlib.Core.Bool.{Bool, true, false, ◌&&◌, ◌||◌, and-true, and_assoc}
use mathlib.Core.List.{List, [], ◌∷◌, ◌++◌}
use native.Mathlib.Omega.{arith}
use native.Mathlib.Decide.{dec_lt, ℕ_discrete}
use lib.Dec.{leb, ltb, eqb}
use lib.ListN.{get_or}
use lib.Seq.{get_or-drop}
use borrow.Author.Tests.{le-leb, lt-ltb, le-ltb, ltb-true, eq-eqb, ne_eqb}
use Rattle.wire.specs.Numbers.{number16, number32}
use Rattle.model.specs.Lists.{every}
use Rattle.model.specs.Image.{Present}
use Rattle.model.specs.Decoding.{present_of, parse, place, records_fit}
use Rattle.lookback.proofs.Places.{parse_more, number16_drop, number32_drop}
use Rattle.model.proofs.Tests.{and_r, nth}
use Rattle.lot.specs.View.{all_below}
use Rattle.lot.proofs.Views.{below_in}
use Rattle.judging.specs.Judging.{present_at, comes_after, in_order, plain_record, record_fits}

pub order_at : (s : List ℕ) (i : ℕ) → 0 < i → in_order s i ≡ comes_after (present_at s (i - 1)) (present_at s i)
unfolding in_order
order_at s zero h = absurd (omega arith)
order_at s (suc i) h = let z : suc i - 1 ≡ i = omega arith in rw z

-- where keys are below 128, records stand in order as their places do
places_agree : (p q : Present) → p.key < 128 → q.key < 128 → comes_after p q ≡ ltb (place p) (place q)
unfolding comes_after
places_agree p q small little = go (dec_lt p.fragment q.fragment) (ℕ_discrete p.fragment q.fragment)
  where
    go : Dec (p.fragment < q.fragment) → Dec (p.fragment ≡ q.fragment) → (ltb p.fragment q.fragment || eqb p.fragment q.fragment && ltb p.key q.key) ≡ ltb (place p) (place q)
    go (yes l) d = rw (lt-ltb p.fragment q.fragment l) (sym (lt-ltb (place p) (place q) (omega arith)))
    go (no l) (no d) = rw (le-ltb p.fragment q.fragment (omega arith), ne_eqb p.fragment q.fragment d) (sym (le-ltb (place p) (place q) (omega (arith, d))))
    go (no l) (yes e) = rw (le-ltb p.fragment q.fragment (omega arith), eq-eqb p.fragment q.fragment e) (keys (dec_lt p.key q.key))
      where
        keys : Dec (p.key < q.key) → ltb p.key q.key ≡ ltb (place p) (place q)
        keys (yes h) = lt-ltb p.key q.key h ∙ sym (lt-ltb (place p) (place q) (omega arith))
        keys (no h) = le-ltb p.key q.key (omega arith) ∙ sym (le-ltb (place p) (place q) (omega arith))

module _ (s : List ℕ) (i : ℕ) where
  pub fragment_at_law : (present_at s i).fragment ≡ get_or s (i * 8) 0
  unfolding present_of
  fragment_at_law = let z : i * 8 + 0 ≡ i * 8 = omega arith in get_or-drop (i * 8) s 0 0 ∙ rw z

  pub key_at : (present_at s i).key ≡ number16 s (i * 8 + 2)
  unfolding present_of
  key_at = number16_drop (i * 8) s 2

  pub value_at : (present_at s i).value ≡ number32 s (i * 8 + 4)
  unfolding present_of
  value_at = number32_drop (i * 8) s 4

-- the least place for a record behind these, where least is that for the first
after : ℕ → List Present → ℕ
after least [] = least
after least (r ∷ rs) = after (suc (place r)) rs

after_more : (least : ℕ) (xs : List Present) (y : Present) → after least (xs ++ y ∷ []) ≡ suc (place y)
unfolding after
after_more least [] y = refl
after_more least (x ∷ xs) y = after_more (suc (place x)) xs y

module _ (f k : ℕ) where
  abbrev fits_behind : ℕ → Present → Bool
  fits_behind least y = every (ltb y.fragment f ∷ ltb y.key k ∷ leb least (place y) ∷ [])

  fit_more : (least : ℕ) (xs : List Present) (y : Present) → records_fit f k least (xs ++ y ∷ []) ≡ (records_fit f k least xs && fits_behind (after least xs) y)
  unfolding records_fit after
  fit_more least [] y = and-true _
  fit_more least (x ∷ xs) y = rw (fit_more (suc (place x)) xs y) (sym (and_assoc (fits_behind least x) (records_fit f k (suc (place x)) xs) _))

  module _ (few : k ≤ 128) (s : List ℕ) where
    abbrev fit : ℕ → Bool
    fit n = records_fit f k 0 (parse n 8 present_of s)

    abbrev fits_next : ℕ → Bool
    fits_next n = fits_behind (after 0 (parse n 8 present_of s)) (present_at s n)

    fit_next : (n : ℕ) → fit (suc n) ≡ (fit n && fits_next n)
    fit_next n = ap (records_fit f k 0) (parse_more 8 present_of n s) ∙ fit_more 0 (parse n 8 present_of s) (present_at s n)

    small : (n : ℕ) → ltb (present_at s n).key k ≡ true → (present_at s n).key < 128
    small n w = omega (arith, ltb-true (present_at s n).key k w)

    -- where the records before it fit, a record's order is that of its place behind theirs
    order_is : (n : ℕ) → fit n ≡ true → ltb (present_at s n).key k ≡ true → in_order s n ≡ leb (after 0 (parse n 8 present_of s)) (place (present_at s n))
    unfolding after in_order parse
    order_is zero before w = sym (le-leb 0 (place (present_at s 0)) (omega arith))
    order_is (suc n) before w =
        let last : fits_next n ≡ true = and_r (fit n) _ (sym (fit_next n) ∙ before) in
        places_agree (present_at s n) (present_at s (suc n)) (small n (nth _ last 1)) (small (suc n) w)
        ∙ sym (ap (λ xs. leb (after 0 xs) (place (present_at s (suc n)))) (parse_more 8 present_of n s) ∙ rw (after_more 0 (parse n 8 present_of s) (present_at s n)))

    regroup : (a b z x y o p : Bool) → (b ≡ true → y ≡ true → o ≡ p) → ((a && b) && every (z ∷ x ∷ y ∷ o ∷ [])) ≡ ((a && z) && (b && every (x ∷ y ∷ p ∷ [])))
    unfolding every
    regroup false b z x y o p e = refl
    regroup true false false x y o p e = refl
    regroup true false true x y o p e = refl
    regroup true true false x y o p e = refl
    regroup true true true false y o p e = refl
    regroup true true true true false o p e = refl
    regroup true true true true true o p e = rw (e refl refl)

    pub records_split : (n : ℕ) → all_below (record_fits f k s) n ≡ (all_below (plain_record s) n && fit n)
    unfolding all_below record_fits records_fit parse
    records_split zero = refl
    records_split (suc n) = rw (records_split n) (regroup (all_below (plain_record s) n) _ _ _ _ _ _ (order_is n)) ∙ sym (ap (λ x. (all_below (plain_record s) n && plain_record s n) && x) (fit_next n))

  pub plain_passes : (s : List ℕ) (n : ℕ) → all_below (record_fits f k s) n ≡ true → (i : ℕ) → i < n → plain_record s i ≡ true
  unfolding record_fits
  plain_passes s n w i h = nth _ (below_in (record_fits f k s) n w i h) 0
