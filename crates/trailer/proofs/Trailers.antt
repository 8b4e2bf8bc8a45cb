-- A trailer: its signature compared, and its bytes as they are written. Assumes nothing.
use Prim.Native.Nat.{ℕ, ◌-◌}
use mathlib.Core.Path.{◌≡◌, refl, sym}
use mathlib.Core.List.{List, [], ◌∷◌}
use native.Mathlib.Omega.{arith}
use lib.Dec.{eqb}
use lib.ListN.{length, drop, length-drop}
use lib.Seq.{take_all}
use Rattle.std.specs.Prelude.{nat_eq}
use Rattle.std.specs.List.{ends_with}
use Rattle.std.specs.Cmp.Lexicographic.{pointwise}
use Rattle.std.proofs.lemmas.Bool.Decides.{Decides-eqb, same_from_decides}
use Rattle.model.specs.Image.{signature}
use Rattle.model.specs.Decoding.{same}
use Rattle.trailer.specs.Trailer.{signed}

-- bytes compared the other way round
eqb_back : (x y : ℕ) → eqb y x ≡ eqb x y
eqb_back x y = let d = Decides-eqb x y in same_from_decides _ _ (Decides-eqb y x) (λ e. sym (d.0 e), λ e. d.1 (sym e))

same_back : (xs ys : List ℕ) → pointwise nat_eq ys xs ≡ same xs ys
unfolding same
same_back [] [] = refl
same_back [] (y ∷ ys) = refl
same_back (x ∷ xs) [] = refl
same_back (x ∷ xs) (y ∷ ys) = rw (eqb_back x y, same_back xs ys)

-- what `ends_with` answers of a trailer
pub ends_signed : (m : List ℕ) → length m ≡ 24 → ends_with nat_eq m signature ≡ signed m
unfolding signed
ends_signed m len =
    let z : length m - 4 ≡ 20 = omega arith in
    rw (z, take_all 4 (drop 20 m) (omega (arith, length-drop 20 m))) (same_back (drop 20 m) signature)
