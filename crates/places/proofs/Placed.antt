-- The 20 bytes under which an entry is held, the item that they are, and what holding it leaves. Assumes nothing.
use Prim.Native.Nat.{ℕ, ◌+◌, ◌*◌, ◌-◌, ◌≤◌, ◌<◌, ◌^◌}
use mathlib.Core.Path.{◌≡◌, sym, ap, ◌∙◌}
use mathlib.Core.Logic.{◌⊎◌, inl, inr}
use mathlib.Core.Bool.{true, ◌&&◌}
use mathlib.Core.List.{List, ◌∷◌, ◌++◌}
use native.Mathlib.Omega.{arith}
use lib.Dec.{eqb}
use lib.ListN.{length, get_or, drop, replicate, length-append, get_or-append}
use borrow.Author.Tests.{eqb-true}
use Rattle.wire.specs.Numbers.{number16, with16, with32}
use Rattle.wire.specs.Laws.{Same, length_put16, length_put32, get16_put16, get32_put32, put16_same, put32_same, le16_same, le32_same}
use Rattle.model.specs.Lists.{every}
use Rattle.model.specs.Entry.{entry_of, fits}
use Rattle.model.specs.Taking.{hold}
use Rattle.model.specs.Decoding.{item_of, parse}
use Rattle.model.proofs.Tests.{and_l, and_r, every_append}
use Rattle.places.specs.Moves.{inserted}
use Rattle.model.specs.Section.{plain_place}
use Rattle.places.specs.Places.{end_of, held_item, EntryHeld}
use Rattle.places.proofs.Sections.{parse_split, insert_parts}

pub item_reads : (l m : List ℕ) → Same l m 0 20 → item_of l ≡ item_of m
unfolding item_of Same
item_reads l m s =
    let f : (k : ℕ) → k < 20 → get_or l k 0 ≡ get_or m k 0 = λ k u. s k (omega arith) (omega arith) in
    λ t. record {
      stream = f 1 (omega arith) t;
      entry = record {
        kind = f 0 (omega arith) t;
        transaction = le32_same l m 4 (λ k lo hi. f k (omega arith)) t;
        argument = le16_same l m 8 (λ k lo hi. f k (omega arith)) t;
        value = le32_same l m 12 (λ k lo hi. f k (omega arith)) t;
        flagged = eqb (f 11 (omega arith) t) 1;
        epoch = le32_same l m 16 (λ k lo hi. f k (omega arith)) t;
      };
    }

plain_reads : (l m : List ℕ) → Same l m 0 20 → plain_place l ≡ plain_place m
unfolding plain_place Same
plain_reads l m s = rw (s 2 (omega arith) (omega arith), s 3 (omega arith) (omega arith), s 10 (omega arith) (omega arith), s 11 (omega arith) (omega arith))

-- an entry's bytes, with bytes 2-3 zero, then the epoch
unfoldable placed : List ℕ → ℕ → List ℕ
placed e n = with32 (with16 (e ++ drop 16 (replicate 20 0)) 2 0) 16 n

module _ (e : List ℕ) (n : ℕ) (len : length e ≡ 16) where
  abbrev base : List ℕ
  base = e ++ drop 16 (replicate 20 0)

  length_base : length base ≡ 20
  length_base = length-append e (drop 16 (replicate 20 0)) ∙ rw len

  length_placed : length (placed e n) ≡ 20
  unfolding placed
  length_placed = length_put32 (with16 base 2 0) 16 n ∙ length_put16 base 2 0 ∙ length_base

  -- bytes of e that stay
  stays : (j w : ℕ) → (j + w ≤ 2) ⊎ (4 ≤ j) → j + w ≤ 16 → Same (placed e n) e j w
  unfolding Same placed
  stays j w o h k lo hi =
      put32_same (with16 base 2 0) 16 n j w (inl h) k lo hi
      ∙ put16_same base 2 0 j w o k lo hi
      ∙ get_or-append e (drop 16 (replicate 20 0)) 0 k (omega arith)

  number_cleared : number16 (placed e n) 2 ≡ 0
  unfolding placed
  number_cleared =
      le16_same (placed e n) (with16 base 2 0) 2 (put32_same (with16 base 2 0) 16 n 2 2 (inl (omega arith)))
      ∙ get16_put16 base 2 0 (omega (arith, length_base)) (omega arith)

  module _ (fit : fits (entry_of e) ≡ true) where
    spare_zero : number16 (placed e n) 10 ≡ 0
    unfolding fits entry_of
    spare_zero = le16_same (placed e n) e 10 (stays 10 2 (inr (omega arith)) (omega arith)) ∙ eqb-true (number16 e 10) 0 (and_l _ _ fit)

    placed_item : n < 2 ^ 32 → item_of (placed e n) ≡ held_item e n
    unfolding item_of hold entry_of Same number16 placed
    placed_item b =
        let f : get_or (placed e n) 11 0 ≡ 0 = omega (arith, spare_zero) in
        λ p. record {
          stream = stays 1 1 (inl (omega arith)) (omega arith) 1 (omega arith) (omega arith) p;
          entry = record {
            kind = stays 0 1 (inl (omega arith)) (omega arith) 0 (omega arith) (omega arith) p;
            transaction = le32_same (placed e n) e 4 (stays 4 4 (inr (omega arith)) (omega arith)) p;
            argument = le16_same (placed e n) e 8 (stays 8 2 (inr (omega arith)) (omega arith)) p;
            value = le32_same (placed e n) e 12 (stays 12 4 (inr (omega arith)) (omega arith)) p;
            flagged = eqb (f p) 1;
            epoch = get32_put32 (with16 base 2 0) 16 n (omega (arith, length_put16 base 2 0, length_base)) b p;
          };
        }

    placed_plain : plain_place (placed e n) ≡ true
    unfolding plain_place number16 every
    placed_plain =
        let l = placed e n in
        let a : get_or l 2 0 ≡ 0 = omega (arith, number_cleared) in
        let b : get_or l 3 0 ≡ 0 = omega (arith, number_cleared) in
        let c : get_or l 10 0 ≡ 0 = omega (arith, spare_zero) in
        let d : get_or l 11 0 ≡ 0 = omega (arith, spare_zero) in
        rw (a, b, c, d)

-- what `hold_entry` leaves: b1, b2 and b3 are the place as it is filled
pub hold_is : (h h' e b1 b2 b3 : List ℕ) (n o p : ℕ) → length h ≡ 5120 → n < 256 → length e ≡ 16 → o < 2 ^ 32 → p ≤ n → p ≡ end_of h n (get_or e 1 0)
    → b1 ≡ e ++ drop 16 (replicate 20 0) → b2 ≡ with16 b1 2 0 → b3 ≡ with32 b2 16 o → h' ≡ inserted h (p * 20) (n * 20) b3 → EntryHeld h h' n e o
unfolding placed entry_of every
hold_is h h' e b1 b2 b3 n o p lh ln le bo lp ep w1 q2 q3 q4 =
    let q : h' ≡ inserted h (p * 20) (n * 20) (placed e o) = rw (q4, q3, q2, w1) in
    let z : n ≡ p + (n - p) = omega arith in
    let A = parse p 20 plain_place h in
    let B = parse (n - p) 20 plain_place (drop (p * 20) h) in
    let both : every (parse n 20 plain_place h) ≡ (every A && every B) = ap (λ m. every (parse m 20 plain_place h)) z ∙ rw (parse_split plain_place p (n - p) h) (every_append A B) in
    record {
      are = λ fit. rw (q, ← ep, ← placed_item e o le fit bo) (insert_parts item_of item_reads h (placed e o) p n lp (omega arith) (length_placed e o le));
      stays_plain = λ fit w.
          let ab = sym both ∙ w in
          rw (
            q,
            insert_parts plain_place plain_reads h (placed e o) p n lp (omega arith) (length_placed e o le),
            every_append A (plain_place (placed e o) ∷ B),
            and_l (every A) (every B) ab,
            placed_plain e o le fit,
            and_r (every A) (every B) ab,
          );
    }
