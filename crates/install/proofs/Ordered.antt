-- The places of a transaction, from its first to the next: the tables and the walk. Assumes nothing.
use Prim.Native.Nat.{ℕ, zero, suc, ◌+◌, ◌-◌, ◌≤◌, ◌<◌}
use mathlib.Core.Path.{◌≡◌, refl, sym, ap, subst, ◌∙◌}
use Rattle.std.specs.Prelude.{Option, Some, None}
use mathlib.Core.Bool.{Bool, true, false, ◌&&◌, and-true, and-false}
use mathlib.Core.List.{List, [], ◌∷◌, ◌++◌, append-nil}
use native.Mathlib.Omega.{arith}
use native.Mathlib.Decide.{ℕ_discrete}
use borrow.Author.Tests.{eq-eqb}
use lib.Dec.{eqb}
use lib.ListN.{length, get_or, set}
use lib.Seq.{get_or-set_same, get_or-set_other}
use Rattle.std.specs.Prelude.{if◌then◌else◌}
use Rattle.model.specs.Account.{Held, Record}
use Rattle.model.specs.Closing.{writes_to, written, after_writes}
use Rattle.model.specs.Decoding.{item_of, parse, mine}
use Rattle.model.proofs.Tests.{and_l, and_r}
use Rattle.model.proofs.Forms.{mine_append}
use Rattle.model.specs.Section.{item_at, items}
use Rattle.lookback.specs.Last.{last_with, is_of, last_before}
use Rattle.lookback.proofs.Places.{parse_more}
use Rattle.lookback.proofs.Chains.{last_le, last_passes}
use Rattle.verdicts.specs.Verdicts.{held_in}
use Rattle.verdicts.proofs.ByLast.{own}
use Rattle.verdicts.proofs.Backwards.{last_reaches}
use Rattle.install.specs.Writes.{Changed, write_of}
use Rattle.install.specs.Order.{own_of, Nexts, First}
use Rattle.install.proofs.Written.{change_same, change_none, change_more}

module _ (h : List ℕ) where
  pub own_self : (i : ℕ) → own_of h i i ≡ true
  unfolding is_of
  own_self i = rw (eq-eqb (item_at h i).stream (item_at h i).stream refl, eq-eqb (item_at h i).entry.transaction (item_at h i).entry.transaction refl)

  pub same_own : (i a : ℕ) → own_of h i a ≡ true → own_of h a ≡ own_of h i
  same_own i a w =
      let r = own h (item_at h i).stream (item_at h i).entry.transaction a w in
      ap (λ s. is_of h s (item_at h a).entry.transaction) r.0 ∙ ap (is_of h (item_at h i).stream) r.1

  -- ---- the table of next places

  pub nexts_none : (next : List (Option ℕ)) → Nexts next h 0
  unfolding Nexts
  nexts_none next i l before e = absurd (omega arith)

  -- place i is the first of its transaction
  pub nexts_same : (next : List (Option ℕ)) (i : ℕ) → Nexts next h i → 0 ≡ last_before h i → Nexts next h (i + 1)
  unfolding Nexts
  nexts_same next i w none q l before e = w q (go (ℕ_discrete q i)) before e
    where
      go : Dec (q ≡ i) → q < i
      go (yes z) = absurd (omega (arith, none, e, ap (last_before h) z))
      go (no z) = omega arith

  pub nexts_more : (next : List (Option ℕ)) (i before : ℕ) → length next ≡ 256 → i < 256 → Nexts next h i → suc before ≡ last_before h i → Nexts (set next before (Some i)) h (i + 1)
  unfolding Nexts
  nexts_more next i before len room w e q l b y = go (ℕ_discrete q i)
    where
      low : last_before h i ≤ i
      low = last_le (own_of h i) i

      apart : q < i → b ≡ before → ⊥
      apart k z =
          let same_place : last_before h i ≡ suc b = sym e ∙ ap suc (sym z) in
          let x = last_passes (own_of h q) q b y in
          let a = last_passes (own_of h i) i b same_place in
          let same : own_of h q ≡ own_of h i = sym (same_own q b x.1) ∙ same_own i b a.1 in
          let hit : own_of h i q ≡ true = ap (λ f. f q) (sym same) ∙ own_self q in
          omega (arith, last_reaches (own_of h i) i q k hit, x.0)

      go : Dec (q ≡ i) → get_or (set next before (Some i)) b None ≡ Some q
      go (yes z) = let here : b ≡ before = omega (arith, ap (last_before h) z, e, y) in rw (z, here) (get_or-set_same next before (Some i) None (omega (arith, low, e)))
      go (no z) = get_or-set_other next before b (Some i) None (apart (omega arith)) ∙ w q (omega arith) b y

  -- ---- the first place

  pub first_is : (i a : ℕ) → a ≤ i → own_of h i a ≡ true → 0 ≡ last_before h a → First h i a
  first_is i a l w e = record { low = l; own = w; none_before = ap (λ f. last_with f a) (sym (same_own i a w)) ∙ sym e }

  pub first_back : (i a before : ℕ) → own_of h i a ≡ true → suc before ≡ last_before h a → (before < a) × (own_of h i before ≡ true)
  first_back i a p w e =
      let r = last_passes (own_of h a) a p (sym e) in
      (r.0, ap (λ f. f p) (sym (same_own i a w)) ∙ r.1)

-- ---- the next place that passes

pub record Next (p : ℕ → Bool) (a i : ℕ) : Type 0 where
  pub place : ℕ
  pub later : a < place
  pub low : place ≤ i
  pub passes : p place ≡ true
  pub after : last_with p place ≡ suc a

next_from : (p : ℕ → Bool) (a i : ℕ) → p i ≡ true → (d q : ℕ) → q + d ≡ i → a < q → last_with p q ≡ suc a → Next p a i
unfolding last_with
next_from p a i w zero q e l z = let y : q ≡ i = omega arith in record { place = q; later = l; low = omega arith; passes = ap p y ∙ w; after = z }
next_from p a i w (suc d) q e l z = go (p q) refl (λ t. next_from p a i w d (suc q) (omega arith) (omega arith) (rw t z))
  where
    go : (b : Bool) → p q ≡ b → (p q ≡ false → Next p a i) → Next p a i
    go true t ih = record { place = q; later = l; low = omega arith; passes = t; after = z }
    go false t ih = ih t

pub next_own : (h : List ℕ) (next : List (Option ℕ)) (n i a : ℕ) → Nexts next h n → i < n → a < i → own_of h i a ≡ true → (q : Next (own_of h i) a i) × (get_or next a None ≡ Some q.place)
unfolding Nexts last_with
next_own h next n i a w l u t =
    let q = next_from (own_of h i) a i (own_self h i) (i - suc a) (suc a) (omega arith) (omega arith) (rw t) in
    let b : last_before h q.place ≡ suc a = ap (λ f. last_with f q.place) (same_own h i q.place q.passes) ∙ q.after in
    (q, w q.place (omega (arith, q.low)) a b)

-- ---- a transaction's writes, place by place

pub after_more : (D : ℕ → Bool) (k : ℕ) (hs : List Held) (x : Held) (y : Record) → after_writes D k (hs ++ x ∷ []) y ≡ (if writes_to k x && D x.transaction then written x else after_writes D k hs y)
unfolding after_writes
after_more D k [] x y = refl
after_more D k (g ∷ hs) x y = after_more D k hs x _

pub held_more : (h : List ℕ) (q s : ℕ) → held_in h (suc q) s ≡ held_in h q s ++ (if eqb (item_at h q).stream s then (item_at h q).entry ∷ [] else [])
unfolding mine
held_more h q s = ap (mine s) (parse_more 20 item_of q h) ∙ mine_append s (items q h) (item_at h q ∷ [])

module _ (h : List ℕ) (s t k : ℕ) (y : Record) where
  -- the writes of transaction t in stream s before place q
  abbrev pub writes_till : ℕ → Record
  writes_till q = after_writes (λ u. eqb u t) k (held_in h q s) y

  pub writes_own : (q : ℕ) → is_of h s t q ≡ true → writes_till (suc q) ≡ write_of (item_at h q) k (writes_till q)
  unfolding is_of
  writes_own q w =
      let a = and_l (eqb (item_at h q).stream s) _ w in
      let b = and_r (eqb (item_at h q).stream s) _ w in
      ap (λ hs. after_writes (λ u. eqb u t) k hs y) (held_more h q s) ∙ rw a (after_more (λ u. eqb u t) k (held_in h q s) (item_at h q).entry y ∙ rw (b, and-true (writes_to k (item_at h q).entry)))

  pub writes_other : (q : ℕ) → is_of h s t q ≡ false → writes_till (suc q) ≡ writes_till q
  unfolding is_of
  writes_other q w = ap (λ hs. after_writes (λ u. eqb u t) k hs y) (held_more h q s) ∙ go (eqb (item_at h q).stream s) w
    where
      go : (a : Bool) → (a && eqb (item_at h q).entry.transaction t) ≡ false → after_writes (λ u. eqb u t) k (held_in h q s ++ (if a then (item_at h q).entry ∷ [] else [])) y ≡ writes_till q
      go true z = after_more (λ u. eqb u t) k (held_in h q s) (item_at h q).entry y ∙ rw (z, and-false (writes_to k (item_at h q).entry))
      go false z = rw (append-nil (held_in h q s))

  writes_jump : (q : ℕ) → writes_till q ≡ writes_till (last_with (is_of h s t) q)
  unfolding last_with
  writes_jump zero = refl
  writes_jump (suc q) = go (is_of h s t q) refl (writes_jump q)
    where
      go : (b : Bool) → is_of h s t q ≡ b → writes_till q ≡ writes_till (last_with (is_of h s t) q) → writes_till (suc q) ≡ writes_till (if b then suc q else last_with (is_of h s t) q)
      go true w ih = refl
      go false w ih = writes_other q w ∙ ih

-- ---- the walk of `write_transaction`

module _ (h r : List ℕ) (i : ℕ) where
  abbrev s : ℕ
  s = (item_at h i).stream

  abbrev t : ℕ
  t = (item_at h i).entry.transaction

  -- the writes before place a are applied
  abbrev pub Walked : List ℕ → ℕ → Type 0
  Walked r' a = Changed r r' s (λ k y. writes_till h s t k y a)

  pub walk_start : (a : ℕ) → First h i a → Walked r a
  unfolding after_writes mine parse
  walk_start a f = change_same (λ k y l. sym (writes_jump h s t k y a ∙ ap (writes_till h s t k y) f.none_before)) (change_none r s)

  pub walk_step : (r' r'' : List ℕ) (a : ℕ) → own_of h i a ≡ true → Walked r' a → Changed r' r'' (item_at h a).stream (write_of (item_at h a)) → (q : Next (own_of h i) a i) → Walked r'' q.place
  walk_step r' r'' a w c d q =
      let e = (own h s t a w).0 in
      change_same (λ k y l. sym (writes_own h s t k y a w) ∙ sym (writes_jump h s t k y q.place ∙ ap (writes_till h s t k y) q.after))
      (change_more c (subst (λ u. Changed r' r'' u (write_of (item_at h a))) e d))

  -- a turn: m is what the table of next places says after place a
  pub record Turn (a m : ℕ) : Type 0 where
    pub later : a < m
    pub low : m ≤ i
    pub own : own_of h i m ≡ true
    pub walked : (r' r'' : List ℕ) → Walked r' a → Changed r' r'' (item_at h a).stream (write_of (item_at h a)) → Walked r'' m

  pub walk_on : (next : List (Option ℕ)) (n a : ℕ) → Nexts next h n → i < n → a < i → own_of h i a ≡ true → (m : ℕ) × (get_or next a None ≡ Some m) × Turn a m
  walk_on next n a w l u o =
      let q = next_own h next n i a w l u o in
      (q.0.place, q.1, record { later = q.0.later; low = q.0.low; own = q.0.passes; walked = λ r' r'' c d. walk_step r' r'' a o c d q.0 })

  pub walk_turn : (next : List (Option ℕ)) (n a m : ℕ) → Nexts next h n → i < n → a < i → own_of h i a ≡ true → get_or next a None ≡ Some m → Turn a m
  walk_turn next n a m w l u o e =
      let t = walk_on next n a w l u o in
      let z : t.0 ≡ m = cc (t.1, e) in
      subst (Turn a) z t.2
