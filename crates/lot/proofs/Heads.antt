-- Bytes compared; a head read back as it was written. Assumes nothing.
use Prim.Native.Nat.{ℕ, zero, suc, ◌+◌, ◌*◌, ◌/◌, ◌%◌, ◌<◌, ◌≤◌}
use mathlib.Core.Path.{◌≡◌, refl, ap}
use mathlib.Core.Bool.{true, ◌&&◌}
use mathlib.Core.List.{List, [], ◌∷◌, ◌++◌}
use native.Mathlib.Omega.{arith}
use lib.Dec.{eqb}
use lib.ListN.{length, get_or, drop, length-drop}
use borrow.Author.Tests.{leb-true}
use Rattle.wire.specs.Numbers.{number16, number32, with16, with32, bytes16, bytes32}
use Rattle.std.specs.Prelude.{nat_eq}
use Rattle.std.specs.Cmp.Lexicographic.{pointwise}
use Rattle.model.specs.Account.{account_fits, MOST_FRAGMENTS, MOST_HELD}
use Rattle.model.specs.Decoding.{same}
use Rattle.model.proofs.Tests.{nth}
use Rattle.lot.specs.Layout.{OPEN}
use Rattle.lot.specs.View.{tag_of, head_fits}
use Rattle.lot.specs.Head.{numbers_of, head_bytes}
use Rattle.lot.specs.declared.Account.{Account}

-- a list of n elements, spelled out
unfoldable pub spelled : ℕ → List ℕ → List ℕ
spelled zero l = []
spelled (suc n) l = get_or l 0 0 ∷ spelled n (drop 1 l)

pub spell : (n : ℕ) (l : List ℕ) → length l ≡ n → l ≡ spelled n l
unfolding spelled
spell zero [] e = refl
spell zero (x ∷ l) e = absurd (omega arith)
spell (suc n) [] e = absurd (omega arith)
spell (suc n) (x ∷ l) e = ap (λ m. x ∷ m) (spell n l (omega arith))

-- `==` of two arrays of bytes
pub same_law : (xs ys : List ℕ) → pointwise nat_eq xs ys ≡ same xs ys
unfolding same
same_law [] [] = refl
same_law [] (y ∷ ys) = refl
same_law (x ∷ xs) [] = refl
same_law (x ∷ xs) (y ∷ ys) = ap (λ b. eqb x y && b) (same_law xs ys)

-- the tag of a head, byte by byte
pub tag_spelled : (h : List ℕ) → length h ≡ 16 → get_or h 0 0 ∷ get_or h 1 0 ∷ get_or h 2 0 ∷ get_or h 3 0 ∷ [] ≡ tag_of h
unfolding spelled
tag_spelled h long = rw (spell 16 h long) refl

-- of a head that fits
pub limits : (h : List ℕ) (n : Account) → n ≡ numbers_of h → head_fits h ≡ true → (n.fragments ≤ MOST_FRAGMENTS) × (n.held ≤ MOST_HELD)
unfolding head_fits numbers_of account_fits
limits h n is fit = rw is (leb-true _ 8 (nth _ (nth _ fit 0) 3), leb-true _ 256 (nth _ fit 2))

-- what is put into sixteen bytes, one after the other, is a head
pub head_written : (h : List ℕ) (n : Account) → length h ≡ 16 → n.fragments < 256
    → with32 (with16 (with16 (with16 (with16 (OPEN ++ drop 4 h) 4 n.number) 6 n.fragments) 8 n.keys) 10 n.held) 12 n.closed ≡ head_bytes n
unfolding head_bytes with16 with32 bytes16 bytes32 spelled
head_written h n len small =
    let low : n.fragments % 256 ≡ n.fragments = omega arith in
    let high : n.fragments / 256 ≡ 0 = omega arith in
    rw (spell 12 (drop 4 h) (omega (arith, length-drop 4 h)), low, high)

module _ (n : Account) where
  pub head_tag : tag_of (head_bytes n) ≡ OPEN
  unfolding head_bytes
  head_tag = refl

  pub head_zero : get_or (head_bytes n) 7 0 ≡ 0
  unfolding head_bytes bytes16
  head_zero = refl

  pub head_numbers_law : numbers_of (head_bytes n) ≡ n
  unfolding head_bytes numbers_of number16 number32 bytes16 bytes32
  head_numbers_law = λ t. record { number = two n.number t; fragments = n.fragments; keys = two n.keys t; held = two n.held t; closed = four n.closed t }
    where
      two : (v : ℕ) → v % 256 + 256 * (v / 256) ≡ v
      two v = omega arith

      four : (v : ℕ) → v % 256 + 256 * (v / 256 % 256) + 65536 * (v / 65536 % 256) + 16777216 * (v / 16777216) ≡ v
      four v = omega arith
