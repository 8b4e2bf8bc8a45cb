-- One more row stored is one more row filled in, and what the overview fills in is there. Assumes nothing.
use Prim.Native.Nat.{ℕ, zero, suc, ◌+◌, ◌*◌, ◌<◌, ◌≤◌}
use mathlib.Core.Path.{◌≡◌, refl, sym, ap, ◌∙◌}
use mathlib.Core.Bool.{Bool, true, false, not}
use mathlib.Core.List.{List, [], ◌∷◌, ◌++◌, append-nil}
use native.Mathlib.Nat.{add-zero, add-suc, suc-add, zero-add, not-suc-le-zero, le_of_suc-le-suc, le_of_lt}
use native.Mathlib.Omega.{arith}
use lib.Dec.{ltb}
use lib.ListN.{length, set, take, drop, length-set}
use lib.Seq.{length-take-le}
use Rattle.std.proofs.lemmas.List.{drop_all}
use borrow.Author.Tests.{ltb-false}
use Rattle.std.specs.Prelude.{if◌then◌else◌, Ok, Err}
use Rattle.model.specs.Lists.{upward}
use Rattle.model.specs.declared.Refusal.TheVariants.{NoSuchLot, TooShort}
use Rattle.lot.specs.Layout.{SIZE}
use Rattle.lots.specs.Memory.{memory_fits, view_of}
use Rattle.overview.specs.Overview.{row_of, overview_answer, rows_with}
use Rattle.overview.specs.declared.Row.{Row}
use Rattle.lots.proofs.Parts.{memory_long}
use Rattle.model.proofs.Tests.{no_way}

-- ---- filling in

stored : (f : ℕ → Row) (i n : ℕ) (ys : List Row) → n < length ys → set (upward n i (λ j. f j ∷ []) ++ drop n ys) n (f (i + n)) ≡ upward (suc n) i (λ j. f j ∷ []) ++ drop (suc n) ys
unfolding upward
stored f i n [] l = absurd (not-suc-le-zero l)
stored f i zero (y ∷ ys) l = ap (λ (k : ℕ). f k ∷ ys) (add-zero i)
stored f i (suc n) (y ∷ ys) l =
    ap (λ (k : ℕ). f i ∷ set (upward n (suc i) (λ j. f j ∷ []) ++ drop n ys) n (f k)) (add-suc i n ∙ sym (suc-add i n)) ∙ ap (λ (zs : List Row). f i ∷ zs) (stored f (suc i) n ys (le_of_suc-le-suc l))

module _ (m : List ℕ) (ys : List Row) where
  pub no_row_yet : ys ≡ rows_with m ys 0
  unfolding upward
  no_row_yet = refl

  pub row_more : (n : ℕ) → n < length ys → set (rows_with m ys n) n (row_of (view_of m n)) ≡ rows_with m ys (suc n)
  row_more n l = ap (λ (k : ℕ). set (rows_with m ys n) n (row_of (view_of m k))) (sym (zero-add n)) ∙ stored (λ j. row_of (view_of m j)) 0 n ys l

  pub rows_long : (n : ℕ) → n ≤ length ys → length (rows_with m ys n) ≡ length ys
  unfolding upward
  rows_long zero l = refl
  rows_long (suc n) l = ap length (sym (row_more n l)) ∙ length-set (rows_with m ys n) n (row_of (view_of m n)) ∙ rows_long n (le_of_lt l)

  -- where the first n are filled in by themselves
  pub all_filled : (n : ℕ) (xs : List Row) → n ≤ length ys → xs ≡ rows_with m (take n ys) n → xs ++ drop n ys ≡ rows_with m ys n
  all_filled n xs h e = rw (e, drop_all n (take n ys) (omega (arith, length-take-le n ys h)), append-nil (upward n 0 (λ i. row_of (view_of m i) ∷ [])))

-- ---- where the overview is answered

module _ (m : List ℕ) (lots n : ℕ) where
  pub record Filled : Type 0 where
    pub enough : lots ≤ n
    pub inside : lots * SIZE ≤ length m

  pub filled : Ok tt ≡ overview_answer m lots n → Filled
  unfolding overview_answer
  filled e = go (memory_fits lots m) (ltb n lots) refl refl e
    where
      go : (a b : Bool) → memory_fits lots m ≡ a → ltb n lots ≡ b → Ok (tt {0}) ≡ (if not a then Err NoSuchLot else if b then Err TooShort else Ok (tt {0})) → Filled
      go false b x y e = no_way cc
      go true true x y e = no_way cc
      go true false x y e = record { enough = ltb-false n lots y; inside = omega (arith, memory_long lots m x) }
