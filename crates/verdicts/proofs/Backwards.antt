-- The table of the verdicts, found backwards. Assumes nothing.
use Prim.Native.Nat.{ℕ, zero, suc, ◌-◌, ◌≤◌, ◌<◌}
use mathlib.Core.Path.{◌≡◌, refl, sym, ap, ◌∙◌}
use mathlib.Core.Bool.{Bool, true, false}
use mathlib.Core.List.{List}
use native.Mathlib.Omega.{arith}
use native.Mathlib.Decide.{dec_lt, ℕ_discrete}
use borrow.Author.Tests.{eq-eqb, leb-true, leb-false, le-leb, lt-leb}
use lib.Dec.{leb}
use lib.ListN.{length, get_or, set, replicate, get_or-replicate, length-set}
use lib.Seq.{get_or-set_same, get_or-set_other}
use Rattle.std.specs.Prelude.{Option, Some, None, MatchOption, if◌then◌else◌}
use Rattle.model.proofs.Tests.{no_way, and_l, and_r}
use Rattle.model.specs.Section.{item_at}
use Rattle.lookback.specs.declared.Place.{Place}
use Rattle.lookback.specs.Places.{place_of}
use Rattle.lookback.specs.Last.{one_past, last_with, is_of, last_before, Lasts}
use Rattle.lookback.proofs.Chains.{last_le, last_hit, last_miss, last_passes}
use Rattle.verdicts.specs.Orderly.{Orderly}
use Rattle.verdicts.specs.declared.Verdict.{Verdict}
use Rattle.verdicts.specs.Verdicts.{verdict_at, verdict_of, answer_at, Verdicts, looked_at, decider_at, decides, decided_by, place_at, answer_from}
use Rattle.verdicts.proofs.ByLast.{own, later, verdict_by}

pub last_reaches : (p : ℕ → Bool) (n a : ℕ) → a < n → p a ≡ true → suc a ≤ last_with p n
unfolding last_with
last_reaches p zero a l e = absurd (omega arith)
last_reaches p (suc n) a l e = go (p n) refl (ℕ_discrete a n) (λ u. last_reaches p n a u e)
  where
    go : (b : Bool) → p n ≡ b → Dec (a ≡ n) → (a < n → suc a ≤ last_with p n) → suc a ≤ (if b then suc n else last_with p n)
    go true q d ih = omega arith
    go false q (yes z) ih = no_way (sym q ∙ ap p (sym z) ∙ e)
    go false q (no z) ih = ih (omega arith)

pub no_place : (o : Option ℕ) → ((i : ℕ) → o ≡ Some i → ⊥) → one_past o ≡ 0
no_place None f = refl
no_place (Some i) f = absurd (f i refl)

-- a test of the place that looking back answers
pub tested : (P : Place → Type 0) (h : List ℕ) (f : ℕ → Bool) (r : Bool) (m : ℕ) → f 0 ≡ false → ((i : ℕ) → P (place_of (item_at h i)) → r ≡ f (suc i)) → MatchOption (place_at h m) (r ≡ false) P → r ≡ f m
unfolding place_at
tested P h f r zero z s e = e ∙ sym z
tested P h f r (suc i) z s e = s i e

-- what is found for a place, handed to the one before it of its piece
abbrev pub handed : Option ℕ → Option Verdict → List (Option Verdict) → List (Option Verdict)
handed None x d = d
handed (Some b) x d = set d b x

handed_other : (before : Option ℕ) (x : Option Verdict) (d : List (Option Verdict)) (i : ℕ) → (suc i ≡ one_past before → ⊥) → get_or (handed before x d) i None ≡ get_or d i None
handed_other None x d i q = refl
handed_other (Some b) x d i q = get_or-set_other d b i x None (λ z. q (ap suc z))

handed_same : (before : Option ℕ) (x : Option Verdict) (d : List (Option Verdict)) (i : ℕ) → i < length d → suc i ≡ one_past before → get_or (handed before x d) i None ≡ x
handed_same None x d i l q = absurd (omega arith)
handed_same (Some b) x d i l q = let z : i ≡ b = omega arith in rw z (get_or-set_same d b x None (omega arith))

handed_length : (before : Option ℕ) (x : Option Verdict) (d : List (Option Verdict)) → length (handed before x d) ≡ length d
handed_length None x d = refl
handed_length (Some b) x d = length-set d b x

module _ (h : List ℕ) (n e : ℕ) where
  abbrev own_of : ℕ → ℕ → Bool
  own_of i = is_of h (item_at h i).stream (item_at h i).entry.transaction

  own_self : (i : ℕ) → own_of i i ≡ true
  unfolding is_of
  own_self i = rw (eq-eqb (item_at h i).stream (item_at h i).stream refl, eq-eqb (item_at h i).entry.transaction (item_at h i).entry.transaction refl)

  looked_own : (i j : ℕ) → decider_at h n e i ≡ suc j → (j < n) × (own_of i j ≡ true) × (leb (item_at h j).entry.epoch e ≡ true)
  unfolding looked_at
  looked_own i j z =
      let r = last_passes (looked_at h e (item_at h i).stream (item_at h i).entry.transaction) n j z in
      (r.0, and_l (own_of i j) _ r.1, and_r (own_of i j) _ r.1)

  pub decider_reaches : (i : ℕ) → i < n → leb (item_at h i).entry.epoch e ≡ true → suc i ≤ decider_at h n e i
  unfolding looked_at
  decider_reaches i l w = last_reaches (looked_at h e (item_at h i).stream (item_at h i).entry.transaction) n i l (rw (own_self i, w))

  -- the verdict on place i if a place from j on decides it
  abbrev told : ℕ → ℕ → Option Verdict
  told j i = if leb (decider_at h n e i) j then None else Some (verdict_of (verdict_at h n e i))

  -- places from j on have what is told at them; below j, the last of each piece has what is told at j
  pub record Found (answers : List (Option Verdict)) (j : ℕ) : Type 0 where
    pub size : length answers ≡ 256
    pub done : (i : ℕ) → i < n → j ≤ i → get_or answers i None ≡ told i i
    pub heads : (i : ℕ) → i < j → last_with (own_of i) j ≡ suc i → get_or answers i None ≡ told j i

  pub found_none : n ≤ 256 → Found (replicate 256 None) n
  found_none s = record {
    size = refl;
    done = λ i l u. absurd (omega arith);
    heads = λ i l z. get_or-replicate 256 i None None (omega arith) ∙ rw (le-leb (decider_at h n e i) n (last_le _ n));
  }

  module _ (o : Orderly h n) where
    -- a place of a later epoch has no decider from itself on
    none_later : (i : ℕ) → leb (item_at h i).entry.epoch e ≡ false → decider_at h n e i ≤ i
    none_later i w = go (decider_at h n e i) refl
      where
        go : (m : ℕ) → decider_at h n e i ≡ m → m ≤ i
        go zero z = omega arith
        go (suc j) z = side (dec_lt j i)
          where
            side : Dec (j < i) → suc j ≤ i
            side (yes u) = omega arith
            side (no u) =
                let r = looked_own i j z in
                let s = own h (item_at h i).stream (item_at h i).entry.transaction j r.1 in
                let k = (later h n o i j (omega arith) r.0).1 (sym s.0) in
                absurd (omega (arith, k, leb-false (item_at h i).entry.epoch e w, leb-true (item_at h j).entry.epoch e r.2))

    pub found_all : (answers : List (Option Verdict)) → Found answers 0 → Verdicts answers h n e
    unfolding Verdicts answer_at
    found_all answers f i l = f.done i l (omega arith) ∙ go (leb (item_at h i).entry.epoch e) refl
      where
        go : (w : Bool) → leb (item_at h i).entry.epoch e ≡ w → told i i ≡ (if w then Some (verdict_of (verdict_at h n e i)) else None)
        go true w = let r = decider_reaches i l w in rw (lt-leb (decider_at h n e i) i (omega arith))
        go false w = rw (le-leb (decider_at h n e i) i (none_later i w))

    module _ (answers : List (Option Verdict)) (a : ℕ) (room : n ≤ 256) (l : a < n) (f : Found answers (suc a)) where
      -- what place a is answered
      answer_is : answer_from h n e (get_or answers a None) a ≡ told a a
      unfolding answer_from
      answer_is = rw (f.heads a (omega arith) (last_hit (own_of a) a (own_self a))) (go (leb (decider_at h n e a) (suc a)) refl (leb (item_at h a).entry.epoch e) refl)
        where
          go : (b : Bool) → leb (decider_at h n e a) (suc a) ≡ b → (w : Bool) → leb (item_at h a).entry.epoch e ≡ w
              → answer_from h n e (if b then None else Some (verdict_of (verdict_at h n e a))) a ≡ told a a
          go true eb true ew =
              let r = decider_reaches a l ew in
              let q : decider_at h n e a ≡ suc a = omega (arith, leb-true (decider_at h n e a) (suc a) eb) in
              rw (ew, lt-leb (decider_at h n e a) a (omega arith), verdict_by h n o e a a q)
          go true eb false ew = rw (ew, le-leb (decider_at h n e a) a (none_later a ew))
          go false eb w ew = let q = leb-false (decider_at h n e a) (suc a) eb in rw (lt-leb (decider_at h n e a) a (omega arith))

      module _ (before : Option ℕ) (x : Option Verdict) (eb : one_past before ≡ last_before h a) (ex : x ≡ told a a) where
        abbrev next : List (Option Verdict)
        next = handed before x (set answers a x)

        low : one_past before ≤ a
        low = omega (arith, last_le (own_of a) a)

        unchanged : (i : ℕ) → (i ≡ a → ⊥) → (suc i ≡ one_past before → ⊥) → get_or next i None ≡ get_or answers i None
        unchanged i p q = handed_other before x (set answers a x) i q ∙ get_or-set_other answers a i x None p

        found_here : (i : ℕ) → i < n → a ≤ i → Dec (i ≡ a) → get_or next i None ≡ told i i
        found_here i u v (yes z) =
            let s = f.size in
            let k = low in
            rw z (handed_other before x (set answers a x) a (λ y. omega arith) ∙ get_or-set_same answers a x None (omega arith) ∙ ex)
        found_here i u v (no z) = let k = low in unchanged i z (λ y. omega arith) ∙ f.done i u (omega arith)

        found_head : (i : ℕ) → i < a → last_with (own_of i) a ≡ suc i → (b : Bool) → own_of i a ≡ b → get_or next i None ≡ told a i
        unfolding verdict_at
        found_head i u z true q =
            let s = f.size in
            let r = own h (item_at h i).stream (item_at h i).entry.transaction a q in
            let w : suc i ≡ one_past before = sym (eb ∙ rw (r.0, r.1) z) in
            let d : told a a ≡ told a i = rw (r.0, r.1) in
            handed_same before x (set answers a x) i (simp length-set (omega arith)) w ∙ ex ∙ d
        found_head i u z false q =
            let miss : last_with (own_of i) (suc a) ≡ suc i = last_miss (own_of i) a q ∙ z in
            unchanged i (λ y. omega arith) away ∙ f.heads i (omega arith) miss
            ∙ same_side (decider_at h n e i) (λ y. no_way (sym q ∙ (looked_own i a y).1))
          where
            away : suc i ≡ one_past before → ⊥
            away y =
                let r = own h (item_at h a).stream (item_at h a).entry.transaction i (last_passes (own_of a) a i (sym eb ∙ sym y)).1 in
                no_way (sym q ∙ rw (r.0, r.1) (own_self a))

            same_side : (m : ℕ) → (m ≡ suc a → ⊥) → (if leb m (suc a) then None else Some (verdict_of (verdict_at h n e i))) ≡ (if leb m a then None else Some (verdict_of (verdict_at h n e i)))
            same_side m k = go (leb m a) refl
              where
                go : (b : Bool) → leb m a ≡ b → (if leb m (suc a) then None else Some (verdict_of (verdict_at h n e i))) ≡ (if b then None else Some (verdict_of (verdict_at h n e i)))
                go true y = rw (le-leb m (suc a) (omega (arith, leb-true m a y)))
                go false y = rw (lt-leb m (suc a) (omega (arith, leb-false m a y)))

      found_more : (before : Option ℕ) (x : Option Verdict) → one_past before ≡ last_before h a → x ≡ answer_from h n e (get_or answers a None) a → Found (handed before x (set answers a x)) a
      found_more before x eb ex = record {
        size = handed_length before x (set answers a x) ∙ simp length-set f.size;
        done = λ i u v. found_here before x eb (ex ∙ answer_is) i u v (ℕ_discrete i a);
        heads = λ i u z. found_head before x eb (ex ∙ answer_is) i u z (own_of i a) refl;
      }

    -- a turn, at the place before m
    pub found_turn : (answers : List (Option Verdict)) (m : ℕ) (before : Option ℕ) (x : Option Verdict) → n ≤ 256 → 0 < m → m ≤ n → Found answers m
        → one_past before ≡ last_before h (m - 1) → x ≡ answer_from h n e (get_or answers (m - 1) None) (m - 1) → Found (handed before x (set answers (m - 1) x)) (m - 1)
    found_turn answers zero before x room l u f eb ex = absurd (omega arith)
    found_turn answers (suc a) before x room l u f eb ex =
        let z : suc a - 1 ≡ a = omega arith in
        rw z (found_more answers a room (omega arith) f before x (rw z at eb) (rw z at ex))

  -- ---- what place i is answered

  pub answer_none : (i : ℕ) → e < (item_at h i).entry.epoch → None ≡ answer_at h n e i
  unfolding answer_at
  answer_none i l = rw (lt-leb (item_at h i).entry.epoch e l)

  module _ (i : ℕ) (l : (item_at h i).entry.epoch ≤ e) where
    pub answer_own : Orderly h n → decider_at h n e i ≡ suc i → Some (verdict_of (decided_by (decides h n e) h i)) ≡ answer_at h n e i
    unfolding answer_at
    answer_own o z = rw (le-leb (item_at h i).entry.epoch e l, verdict_by h n o e i i z)

    pub answer_later : (m : ℕ) → decider_at h n e i ≡ m → 0 < m → answer_at h n e (m - 1) ≡ answer_at h n e i
    unfolding answer_at verdict_at
    answer_later zero z u = absurd (omega arith)
    answer_later (suc j) z u =
        let y : suc j - 1 ≡ j = omega arith in
        let r = looked_own i j z in
        let w = own h (item_at h i).stream (item_at h i).entry.transaction j r.1 in
        rw (y, le-leb (item_at h i).entry.epoch e l, r.2, w.0, w.1)

pub lasts_is : (last : List (Option ℕ)) (h : List ℕ) (n i : ℕ) → Lasts last h n → i < n → last_before h i ≡ one_past (get_or last i None)
unfolding Lasts
lasts_is last h n i l u = sym (l i u)

pub lasts_low : (last : List (Option ℕ)) (h : List ℕ) (n i : ℕ) → Lasts last h n → i < n → one_past (get_or last i None) ≤ i
unfolding Lasts
lasts_low last h n i l u = omega (arith, l i u, last_le (own_of h n n i) i)
