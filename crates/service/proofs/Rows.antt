-- The rows that are written are those of the overview. Assumes nothing.
use Prim.Native.Nat.{ℕ, ◌/◌, ◌<◌, ◌≤◌}
use mathlib.Core.Path.{◌≡◌, refl, sym, ap}
use mathlib.Core.Bool.{Bool, true, false, not}
use mathlib.Core.List.{List, [], ◌∷◌}
use native.Mathlib.Omega.{arith}
use lib.Dec.{ltb}
use lib.ListN.{length}
use borrow.Author.Tests.{lt-ltb}
use Rattle.std.specs.Prelude.{if◌then◌else◌, Result, Ok, Err}
use Rattle.model.specs.Lists.{upward}
use Rattle.model.specs.Image.{each}
use Rattle.model.specs.Decoding.{parse}
use Rattle.model.specs.declared.Refusal.TheVariants.{NoSuchLot, TooShort}
use Rattle.model.proofs.Buckets.{upward_cong, length_singles}
use Rattle.model.specs.declared.Refusal.{Refusal}
use Rattle.lookback.proofs.Places.{length_parse}
use Rattle.judging.proofs.Parts.{Bytes}
use Rattle.image.specs.Saving.{Written}
use Rattle.lots.specs.Memory.{memory_fits, lot_fits, view_of}
use Rattle.overview.specs.Overview.{row_of, row_at, overview_answer, rows_for}
use Rattle.overview.proofs.Rows.{filled}
use Rattle.service.specs.Crossing.{row16, RowsFilled}
use Rattle.service.specs.Writing.{rows_at}
use Rattle.service.proofs.Crossing.{crosses, row_in, row_long, row_sound}

module _ (m : List ℕ) (lots n : ℕ) where
  due_enough : rows_for lots (overview_answer m lots n) ≤ n
  due_enough = go (overview_answer m lots n) refl
    where
      go : (o : Result (Unit {0}) Refusal) → overview_answer m lots n ≡ o → rows_for lots o ≤ n
      go (Ok _) e = (filled m lots n (sym e)).enough
      go (Err r) e = omega arith

  there : memory_fits lots m ≡ true → (i : ℕ) → i < lots → row_at m lots i ≡ row_of (view_of m i)
  unfolding row_at lot_fits
  there e i h = rw (e, lt-ltb i lots h)

  rows_are : rows_at m lots (rows_for lots (overview_answer m lots n)) ≡ upward (rows_for lots (overview_answer m lots n)) 0 (λ i. row_of (view_of m i) ∷ [])
  unfolding overview_answer upward
  rows_are = go (memory_fits lots m) (ltb n lots) refl
    where
      go : (a b : Bool) → memory_fits lots m ≡ a
          → (let d = rows_for lots (if not a then Err NoSuchLot else if b then Err TooShort else Ok tt) in rows_at m lots d ≡ upward d 0 (λ i. row_of (view_of m i) ∷ []))
      go false b e = refl
      go true true e = refl
      go true false e = upward_cong lots 0 (λ i. row_at m lots i ∷ []) (λ i. row_of (view_of m i) ∷ []) (λ i l h. ap (λ r. r ∷ []) (there e i (omega arith)))

pub rows_filled : (m : List ℕ) (lots : ℕ) (b : List ℕ) {b' : List ℕ} {e d : ℕ} → Bytes b → d ≡ rows_for lots (overview_answer m lots (length b / 16)) → Written b b' 0 e (each row16 (rows_at m lots d))
    → RowsFilled m lots b b' (overview_answer m lots (length b / 16))
rows_filled m lots b {d = d} small is w =
    let n = length b / 16 in
    let long : length (rows_at m lots d) ≡ d = length_singles (λ i. row_at m lots i) d 0 in
    let count : length (parse n 16 row_in b) ≡ n = length_parse 16 row_in n b in
    crosses row16 16 row_long row_in row_sound b small n (omega arith) (rows_at m lots d) (omega arith) (omega (arith, long, due_enough m lots n)) w
    (record { answer = rw count; filled = rw (long, is, rows_are m lots n) })
