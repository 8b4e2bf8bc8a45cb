-- The end of a stream's entries: the turn of `end_of`, and what stands before it and from it on. Assumes nothing.
use Prim.Native.Nat.{ℕ, zero, suc, ◌+◌, ◌*◌, ◌-◌, ◌≤◌, ◌<◌}
use mathlib.Core.Path.{◌≡◌, refl, ◌∙◌}
use mathlib.Core.Bool.{Bool, true, false}
use mathlib.Core.List.{List, [], ◌∷◌}
use native.Mathlib.Omega.{arith}
use native.Mathlib.Numerals.{add-one}
use native.Mathlib.Decide.{ℕ_discrete}
use lib.Dec.{leb, ltb}
use lib.ListN.{get_or, drop}
use lib.Seq.{get_or-drop}
use borrow.Author.Tests.{le-leb, lt-leb, lt-ltb, leb-true, leb-false}
use Rattle.std.specs.Prelude.{if◌then◌else◌}
use Rattle.model.specs.Lists.{all}
use Rattle.model.specs.Image.{Item}
use Rattle.model.specs.Decoding.{item_of, parse}
use Rattle.model.specs.Section.{items}
use Rattle.places.specs.Places.{end_of}

-- the stream of place j
abbrev stream_at : List ℕ → ℕ → ℕ
stream_at h j = get_or h (j * 20 + 1) 0

-- ---- a turn

module _ (h : List ℕ) (i : ℕ) where
  pub end_start : 0 ≡ end_of h 0 i
  unfolding end_of
  end_start = refl

  pub end_hit : (p j : ℕ) → p ≡ j + 1 → stream_at h j ≤ i → p ≡ end_of h p i
  unfolding end_of
  end_hit p j e q = rw (e, add-one j, le-leb (stream_at h j) i q)

  pub end_miss : (p j : ℕ) → p ≡ j + 1 → i < stream_at h j → end_of h p i ≡ end_of h j i
  unfolding end_of
  end_miss p j e q = rw (e, add-one j, lt-leb (stream_at h j) i q)

  -- ---- where it is

  pub end_within : (n : ℕ) → end_of h n i ≤ n
  unfolding end_of
  end_within zero = omega arith
  end_within (suc n) = go (leb (stream_at h n) i) (end_within n)
    where
      go : (b : Bool) → end_of h n i ≤ n → (if b then suc n else end_of h n i) ≤ suc n
      go true ih = omega arith
      go false ih = omega arith

  end_above : (n j : ℕ) → end_of h n i ≤ j → j < n → i < stream_at h j
  unfolding end_of
  end_above zero j l u = absurd (omega arith)
  end_above (suc n) j l u = go (leb (stream_at h n) i) refl l (end_above n j)
    where
      go : (b : Bool) → leb (stream_at h n) i ≡ b → (if b then suc n else end_of h n i) ≤ j → (end_of h n i ≤ j → j < n → i < stream_at h j) → i < stream_at h j
      go true e l ih = absurd (omega arith)
      go false e l ih = latest (ℕ_discrete j n)
        where
          latest : Dec (j ≡ n) → i < stream_at h j
          latest (yes q) = rw q (leb-false (stream_at h n) i e)
          latest (no q) = ih l (omega arith)

  end_last : (n j : ℕ) → end_of h n i ≡ suc j → stream_at h j ≤ i
  unfolding end_of
  end_last zero j e = absurd (omega arith)
  end_last (suc n) j e = go (leb (stream_at h n) i) refl e (end_last n j)
    where
      go : (b : Bool) → leb (stream_at h n) i ≡ b → (if b then suc n else end_of h n i) ≡ suc j → (end_of h n i ≡ suc j → stream_at h j ≤ i) → stream_at h j ≤ i
      go true t e ih = let q : j ≡ n = omega arith in rw q (leb-true (stream_at h n) i t)
      go false t e ih = ih e

-- ---- the items before it, and from it on

-- the stream of the last of the items, and s if there is none
unfoldable pub last_stream : ℕ → List Item → ℕ
last_stream s [] = s
last_stream s (x ∷ xs) = last_stream x.stream xs

next : (l : List ℕ) (j : ℕ) → stream_at (drop 20 l) j ≡ stream_at l (suc j)
next l j = let e : 20 + (j * 20 + 1) ≡ suc j * 20 + 1 = omega arith in get_or-drop 20 l (j * 20 + 1) 0 ∙ rw e

last_item : (l : List ℕ) (s j : ℕ) → last_stream s (items (suc j) l) ≡ stream_at l j
unfolding parse item_of last_stream
last_item l s zero = refl
last_item l s (suc j) = last_item (drop 20 l) (get_or l 1 0) j ∙ next l j

all_above : (i m : ℕ) (l : List ℕ) → ((j : ℕ) → j < m → i < stream_at l j) → all (λ g. ltb i g.stream) (items m l) ≡ true
unfolding parse item_of all
all_above i zero l f = refl
all_above i (suc m) l f = rw (lt-ltb i (get_or l 1 0) (f 0 (omega arith)), all_above i m (drop 20 l) (λ j u. rw (next l j) (f (suc j) (omega arith))))

module _ (h : List ℕ) (n i : ℕ) where
  pub before_end : last_stream 0 (items (end_of h n i) h) ≤ i
  unfolding parse last_stream
  before_end = go (end_of h n i) refl
    where
      go : (p : ℕ) → end_of h n i ≡ p → last_stream 0 (items p h) ≤ i
      go zero e = omega arith
      go (suc j) e = rw (last_item h 0 j) (end_last h i n j e)

  pub from_end : all (λ g. ltb i g.stream) (items (n - end_of h n i) (drop (end_of h n i * 20) h)) ≡ true
  from_end =
      let p = end_of h n i in
      all_above i (n - p) (drop (p * 20) h)
      (λ j u. let e : p * 20 + (j * 20 + 1) ≡ (p + j) * 20 + 1 = omega arith in rw (get_or-drop (p * 20) h (j * 20 + 1) 0, e) (end_above h i n (p + j) (omega arith) (omega arith)))
