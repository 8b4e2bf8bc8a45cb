-- A lot that is lent as a part of the memory: it becomes what it is left as, and every other lot stays. Assumes nothing.
use Prim.Native.Nat.{ℕ, zero, suc, ◌+◌, ◌*◌, ◌-◌, ◌<◌, ◌≤◌}
use mathlib.Core.Path.{◌≡◌, sym, ap, ◌∙◌}
use mathlib.Core.Logic.{◌≢◌}
use mathlib.Core.Bool.{true}
use mathlib.Core.List.{List, [], ◌∷◌, ◌++◌}
use native.Mathlib.Nat.{zero-add, suc-add}
use native.Mathlib.Omega.{arith}
use native.Mathlib.Decide.{dec_lt}
use lib.ListN.{length, take, drop, length-append, length-take, length-drop}
use lib.Seq.{take-nil, take-take, drop-drop}
use borrow.Author.Tests.{eqb-true, ltb-true}
use Rattle.model.proofs.Tests.{and_l, and_r, nth}
use Rattle.lot.specs.Layout.{SIZE}
use Rattle.lot.specs.View.{Lot, view_lot}
use Rattle.writes.proofs.Parts.{own, before, after}
use Rattle.lots.specs.Memory.{memory_fits, lot_fits, lot_of, view_of, OnlyLot, Becomes}

-- ---- a lot that there is lies inside the memory

pub memory_long : (lots : ℕ) (m : List ℕ) → memory_fits lots m ≡ true → length m ≡ lots * SIZE
unfolding memory_fits
memory_long lots m fit = eqb-true (length m) (lots * SIZE) (nth _ fit 2)

pub lot_below : (lots lot : ℕ) (m : List ℕ) → lot_fits lots lot m ≡ true → lot < lots
unfolding lot_fits
lot_below lots lot m fit = ltb-true lot lots (and_r (memory_fits lots m) _ fit)

pub lot_inside : (lots lot : ℕ) (m : List ℕ) → lot_fits lots lot m ≡ true → lot * SIZE + SIZE ≤ length m
unfolding lot_fits
lot_inside lots lot m fit = omega (arith, memory_long lots m (and_l (memory_fits lots m) _ fit), lot_below lots lot m fit)

-- ---- lending

-- the part of the memory that is lent as lot i
abbrev pub part : List ℕ → ℕ → List ℕ
part m i = take (i * SIZE + SIZE - i * SIZE) (drop (i * SIZE) m)

pub part_is : (m : List ℕ) (i : ℕ) → part m i ≡ lot_of m i
part_is m i = let z : i * SIZE + SIZE - i * SIZE ≡ SIZE = omega arith in rw z

pub lot_long : (m : List ℕ) (i : ℕ) → i * SIZE + SIZE ≤ length m → length (lot_of m i) ≡ SIZE
lot_long m i inside = simp (length-take, length-drop) (omega arith)

-- what is left of the memory m, where q is left of lot i
module _ (m : List ℕ) (i : ℕ) (q : List ℕ) (inside : i * SIZE + SIZE ≤ length m) (kept : length q ≡ length (part m i)) where
  abbrev pub left : List ℕ
  left = take (i * SIZE) m ++ (q ++ drop (i * SIZE + SIZE - i * SIZE) (drop (i * SIZE) m))

  pub lent : {v : Lot} → view_lot q ≡ v → Becomes i m left v
  unfolding view_of
  lent e =
      let a = i * SIZE in
      let z : a + SIZE - a ≡ SIZE = omega arith in
      let whole : length q ≡ SIZE = kept ∙ simp (length-take, length-drop) (omega arith) in
      rw z (
        record { long = simp (length-append, length-take, length-drop) (omega arith); before = before m q a SIZE inside whole a 0 (omega arith); behind = after m q a SIZE inside whole (a + SIZE) (omega arith) },
        ap view_lot (own m q a SIZE inside whole) ∙ e,
      )

-- ---- the other lots

take_drop : (n b : ℕ) (l : List ℕ) → take n (drop b l) ≡ drop b (take (b + n) l)
take_drop n zero l = rw zero-add
take_drop n (suc b) [] = take-nil n ∙ ap (drop (suc b)) (sym (take-nil (suc b + n)))
take_drop n (suc b) (x ∷ l) = rw suc-add (take_drop n b l)

module _ {i : ℕ} {m m' : List ℕ} (w : OnlyLot i m m') where
  front_same : (j : ℕ) → j < i → lot_of m' j ≡ lot_of m j
  front_same j h =
      let part : (l : List ℕ) → lot_of l j ≡ drop (j * SIZE) (take (j * SIZE + SIZE) (take (i * SIZE) l)) = λ l. take_drop SIZE (j * SIZE) l ∙ ap (drop (j * SIZE)) (sym (take-take (j * SIZE + SIZE) (i * SIZE) l (omega arith))) in
      part m' ∙ ap (λ l. drop (j * SIZE) (take (j * SIZE + SIZE) l)) w.before ∙ sym (part m)

  pub others_stay : (j : ℕ) → j ≢ i → lot_of m' j ≡ lot_of m j
  others_stay j d = go (dec_lt j i)
    where
      go : Dec (j < i) → lot_of m' j ≡ lot_of m j
      go (yes h) = front_same j h
      go (no h) =
          let e : i * SIZE + SIZE + (j * SIZE - (i * SIZE + SIZE)) ≡ j * SIZE = let f : i < j = omega (arith, d) in omega arith in
          let split : (l : List ℕ) → drop (j * SIZE - (i * SIZE + SIZE)) (drop (i * SIZE + SIZE) l) ≡ drop (j * SIZE) l = λ l. drop-drop (j * SIZE - (i * SIZE + SIZE)) (i * SIZE + SIZE) l ∙ rw e in
          ap (take SIZE) (sym (split m') ∙ ap (drop (j * SIZE - (i * SIZE + SIZE))) w.behind ∙ split m)
