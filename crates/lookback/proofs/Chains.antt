-- The last place with a key, and the chains of buckets that find it. Assumes nothing.
use Prim.Native.Nat.{ℕ, zero, suc, ◌+◌, ◌-◌, ◌≤◌, ◌<◌}
use mathlib.Core.Path.{◌≡◌, refl, sym, ap, ◌∙◌}
use mathlib.Core.Bool.{Bool, true, false}
use mathlib.Core.List.{List}
use native.Mathlib.Numerals.{add-one}
use native.Mathlib.Omega.{arith}
use borrow.Author.Tests.{eq-eqb, eqb-true, eqb-false}
use borrow.Author.Count.{below_more, below_none}
use lib.Dec.{eqb}
use lib.ListN.{length, get_or, set, replicate, get_or-replicate}
use lib.Seq.{get_or-set_same, get_or-set_other}
use Rattle.std.specs.Prelude.{Option, Some, None, if◌then◌else◌}
use Rattle.model.proofs.Tests.{and_l, and_r}
use Rattle.model.specs.Section.{item_at}
use Rattle.lookback.specs.Last.{one_past, last_with, is_of, last_before, Lasts, bucket_of, bucket_at, in_bucket, Chained, Indexed, Walk}

-- ---- the last number that passes

module _ (p : ℕ → Bool) where
  pub last_le : (n : ℕ) → last_with p n ≤ n
  unfolding last_with
  last_le zero = omega arith
  last_le (suc n) = go (p n) (last_le n)
    where
      go : (b : Bool) → last_with p n ≤ n → (if b then suc n else last_with p n) ≤ suc n
      go true h = omega arith
      go false h = omega arith

  -- the last one below m is the one before m, or the last one below that
  pub last_turn : (m : ℕ) → 0 < m → last_with p m ≡ (if p (m - 1) then m else last_with p (m - 1))
  unfolding last_with
  last_turn zero l = absurd (omega arith)
  last_turn (suc n) l = let z : suc n - 1 ≡ n = omega arith in rw z

  pub last_hit : (i : ℕ) → p i ≡ true → last_with p (suc i) ≡ suc i
  unfolding last_with
  last_hit i e = rw e

  pub last_miss : (i : ℕ) → p i ≡ false → last_with p (suc i) ≡ last_with p i
  unfolding last_with
  last_miss i e = rw e

  pub last_own : (i : ℕ) → suc i ≡ last_with p (suc i) → p i ≡ true
  unfolding last_with
  last_own i e = go (p i) (last_le i) e
    where
      go : (b : Bool) → last_with p i ≤ i → suc i ≡ (if b then suc i else last_with p i) → b ≡ true
      go true l x = refl
      go false l x = absurd (omega arith)

  pub last_passes : (n j : ℕ) → last_with p n ≡ suc j → (j < n) × (p j ≡ true)
  unfolding last_with
  last_passes zero j e = absurd (omega arith)
  last_passes (suc n) j e = go (p n) refl e (last_passes n j)
    where
      go : (b : Bool) → p n ≡ b → (if b then suc n else last_with p n) ≡ suc j → (last_with p n ≡ suc j → (j < n) × (p j ≡ true)) → (j < suc n) × (p j ≡ true)
      go true t e ih = let z : n ≡ j = omega arith in (omega arith, rw z at t)
      go false t e ih = let r = ih e in (omega (arith, r.0), r.1)

pub same_last : (p q : ℕ → Bool) (m : ℕ) → ((k : ℕ) → k < m → p k ≡ q k) → last_with p m ≡ last_with q m
unfolding last_with
same_last p q zero f = refl
same_last p q (suc m) f = rw (f m (omega arith), same_last p q m (λ k l. f k (omega arith)))

-- where p asks for more than q does, p's last is found from q's last on
pub last_jump : (p q : ℕ → Bool) → ((k : ℕ) → p k ≡ true → q k ≡ true) → (n : ℕ) → last_with p n ≡ last_with p (last_with q n)
unfolding last_with
last_jump p q f zero = refl
last_jump p q f (suc n) = go (q n) refl (last_jump p q f n)
  where
    contra : (a b : Bool) → (a ≡ true → b ≡ true) → b ≡ false → a ≡ false
    contra false b g e = refl
    contra true b g e = sym (g refl) ∙ e

    go : (b : Bool) → q n ≡ b → last_with p n ≡ last_with p (last_with q n) → last_with p (suc n) ≡ last_with p (if b then suc n else last_with q n)
    go true e h = refl
    go false e h = rw (contra (p n) (q n) (f n) e) h

-- ---- a walk along a chain

-- a place with the key is in the key's bucket
key_bucket : (h : List ℕ) (s t i : ℕ) → is_of h s t i ≡ true → in_bucket h (bucket_of s t) i ≡ true
unfolding is_of in_bucket
key_bucket h s t i e =
    let a : (item_at h i).stream ≡ s = eqb-true _ _ (and_l _ _ e) in
    let b : (item_at h i).entry.transaction ≡ t = eqb-true _ _ (and_r (eqb (item_at h i).stream s) _ e) in
    eq-eqb (bucket_at h i) (bucket_of s t) (cc)

module _ (h : List ℕ) (head next : List (Option ℕ)) (n s t : ℕ) (index : Indexed h head next n) where
  pub walk_start : (b : ℕ) → b ≡ bucket_of s t → b < 256 → Walk h s t n (one_past (get_or head b None))
  walk_start b eb small =
      let q : ℕ → Bool = in_bucket h (bucket_of s t) in
      rw (index.heads b small, eb)
      (record { low = last_le q n; own = last_jump q q (λ k x. x) n; same = last_jump (is_of h s t) q (key_bucket h s t) n })

  pub walk_on : (i : ℕ) → Walk h s t n (suc i) → is_of h s t i ≡ false → Walk h s t n (one_past (get_or next i None))
  unfolding in_bucket
  walk_on i w e =
      let q : ℕ → Bool = in_bucket h (bucket_of s t) in
      let low : suc i ≤ n = w.low in
      let b : bucket_at h i ≡ bucket_of s t = eqb-true _ _ (last_own q i w.own) in
      rw (index.chained i (omega arith), b)
      (record {
        low = omega (arith, last_le q i);
        own = last_jump q q (λ k x. x) i;
        same = w.same ∙ last_miss (is_of h s t) i e ∙ last_jump (is_of h s t) q (key_bucket h s t) i;
      })

-- a walk goes down
pub walk_less : (h : List ℕ) (next : List (Option ℕ)) (n s t m : ℕ) → Walk h s t n m → Chained next h n → 0 < m → one_past (get_or next (m - 1) None) < m
walk_less h next n s t m w c l = let low : m ≤ n = w.low in omega (arith, c (m - 1) (omega arith), last_le (in_bucket h (bucket_at h (m - 1))) (m - 1))

pub walk_hit : (h : List ℕ) (s t n i : ℕ) → Walk h s t n (suc i) → is_of h s t i ≡ true → suc i ≡ last_with (is_of h s t) n
walk_hit h s t n i w e = sym (w.same ∙ last_hit (is_of h s t) i e)

pub walk_end : (h : List ℕ) (s t n : ℕ) → Walk h s t n 0 → 0 ≡ last_with (is_of h s t) n
unfolding last_with
walk_end h s t n w = sym w.same

-- ---- the chains, place by place

pub indexed_none : (h : List ℕ) → Indexed h (replicate 256 None) (replicate 256 None) 0
unfolding last_with
indexed_none h = record { heads = λ b l. ap one_past (get_or-replicate 256 b None None l); chained = below_none _ }

module _ (h : List ℕ) (head next : List (Option ℕ)) (i b : ℕ) (size_head : length head ≡ 256) (size_next : length next ≡ 256) (eb : b ≡ bucket_at h i) (small : b < 256) (w : Indexed h head next i) where
  -- the new head of the place's bucket, and the old ones of the others
  new_head : (x : ℕ) → x < 256 → (z : Bool) → eqb b x ≡ z → one_past (get_or (set head b (Some i)) x None) ≡ last_with (in_bucket h x) (i + 1)
  unfolding last_with in_bucket
  new_head x y true e =
      let e' : b ≡ x = eqb-true b x e in
      rw (← e', get_or-set_same head b (Some i) None (omega arith), add-one i, ← eb, eq-eqb b b refl)
  new_head x y false e =
      let n : x ≡ b → ⊥ = λ z. eqb-false b x e (sym z) in
      rw (get_or-set_other head b x (Some i) None n, add-one i, ← eb, e) (w.heads x y)

  pub indexed_more : i < 256 → Indexed h (set head b (Some i)) (set next i (get_or head b None)) (i + 1)
  indexed_more l = record {
    heads = λ x y. new_head x y (eqb b x) refl;
    chained =
        below_more _ i
        (λ k q. let n : k ≡ i → ⊥ = λ z. omega arith in rw (get_or-set_other next i k (get_or head b None) None n) (w.chained k q))
        (rw (get_or-set_same next i (get_or head b None) None (omega arith)) (w.heads b small ∙ ap (λ (x : ℕ). last_with (in_bucket h x) i) eb));
  }

-- ---- the table of the last places, place by place

pub lasts_none : (h : List ℕ) (last : List (Option ℕ)) → Lasts last h 0
unfolding Lasts
lasts_none h last = below_none _

pub lasts_more : (h : List ℕ) (last : List (Option ℕ)) (i : ℕ) (v : Option ℕ) → length last ≡ 256 → i < 256 → one_past v ≡ last_before h i → Lasts last h i → Lasts (set last i v) h (i + 1)
unfolding Lasts
lasts_more h last i v size l ev w =
    below_more _ i
    (λ k q. let n : k ≡ i → ⊥ = λ z. omega arith in rw (get_or-set_other last i k v None n) (w k q))
    (rw (get_or-set_same last i v None (omega arith)) ev)
