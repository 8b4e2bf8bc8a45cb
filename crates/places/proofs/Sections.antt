-- Parts of 20 bytes, however they are read: n and m of them, and one put in between. Assumes nothing.
use Prim.Native.Nat.{ℕ, zero, suc, ◌+◌, ◌*◌, ◌-◌, ◌≤◌}
use mathlib.Core.Path.{◌≡◌, refl, sym, ◌∙◌}
use mathlib.Core.List.{List, [], ◌∷◌, ◌++◌, append-nil}
use native.Mathlib.Omega.{arith}
use lib.ListN.{length, take, drop, take-append-drop, length-drop, get_or-append}
use lib.Seq.{drop-append-le, drop-drop, drop_at, slice, length-take-le, length-slice}
use Rattle.wire.specs.Laws.{Same}
use Rattle.model.specs.Decoding.{parse}
use Rattle.places.specs.Moves.{inserted}

same_front : (s t u : List ℕ) → 20 ≤ length s → Same (s ++ t) (s ++ u) 0 20
unfolding Same
same_front s t u h k lo hi = get_or-append s t 0 k (omega arith) ∙ sym (get_or-append s u 0 k (omega arith))

-- dec reads 20 bytes
module _ {X : Type 0} (dec : List ℕ → X) where
  pub parse_split : (p m : ℕ) (l : List ℕ) → parse (p + m) 20 dec l ≡ parse p 20 dec l ++ parse m 20 dec (drop (p * 20) l)
  unfolding parse
  parse_split zero m l = let e : 0 + m ≡ m = omega arith in rw e
  parse_split (suc p) m l =
      let e : suc p + m ≡ suc (p + m) = omega arith in
      let d : suc p * 20 ≡ 20 + p * 20 = omega arith in
      rw (e, d, parse_split p m (drop 20 l), drop-drop (p * 20) 20 l)

  module _ (reads : (l m : List ℕ) → Same l m 0 20 → dec l ≡ dec m) where
    parse_front : (n : ℕ) (s t u : List ℕ) → n * 20 ≤ length s → parse n 20 dec (s ++ t) ≡ parse n 20 dec (s ++ u)
    unfolding parse
    parse_front zero s t u h = refl
    parse_front (suc n) s t u h =
        rw (
          reads (s ++ t) (s ++ u) (same_front s t u (omega arith)),
          drop-append-le 20 s t (omega arith),
          drop-append-le 20 s u (omega arith),
          parse_front n (drop 20 s) t u (omega (arith, length-drop 20 s)),
        )

    -- the part r put in at p of n
    pub insert_parts : (h r : List ℕ) (p n : ℕ) → p ≤ n → n * 20 + 20 ≤ length h → length r ≡ 20
        → parse (n + 1) 20 dec (inserted h (p * 20) (n * 20) r) ≡ parse p 20 dec h ++ (dec r ∷ parse (n - p) 20 dec (drop (p * 20) h))
    unfolding inserted parse
    insert_parts h r p n le room len =
        let s = slice (p * 20) (n * 20) h in
        let t = s ++ drop (n * 20 + 20) h in
        let e : n + 1 ≡ p + suc (n - p) = omega arith in
        let lp : length (take (p * 20) h) ≡ p * 20 = length-take-le (p * 20) h (omega arith) in
        let a : parse p 20 dec (take (p * 20) h ++ (r ++ t)) ≡ parse p 20 dec h = parse_front p (take (p * 20) h) (r ++ t) (drop (p * 20) h) (omega arith) ∙ rw (take-append-drop (p * 20) h) in
        let b : dec (r ++ t) ≡ dec r = reads (r ++ t) r (rw append-nil at (same_front r t [] (omega arith))) in
        let d : s ++ drop (n * 20) h ≡ drop (p * 20) h = sym (drop-append-le (p * 20) (take (n * 20) h) (drop (n * 20) h) (omega (arith, length-take-le (n * 20) h (omega arith)))) ∙ rw (take-append-drop (n * 20) h) in
        let c : parse (n - p) 20 dec t ≡ parse (n - p) 20 dec (drop (p * 20) h) = parse_front (n - p) s (drop (n * 20 + 20) h) (drop (n * 20) h) (omega (arith, length-slice (p * 20) (n * 20) h (omega arith))) ∙ rw d in
        rw (e, parse_split p (suc (n - p)) (take (p * 20) h ++ (r ++ t)), drop_at (take (p * 20) h) (r ++ t) (p * 20) lp, drop_at r t 20 len, a, b, c)
