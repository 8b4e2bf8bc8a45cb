-- The pairs of a list, as its parts of two: a line for each is a line for each piece. Assumes nothing.
use Prim.Native.Nat.{ℕ, zero, suc, ◌≤◌}
use mathlib.Core.Path.{◌≡◌, refl, ap}
use mathlib.Core.List.{List, [], ◌∷◌, ◌++◌}
use native.Mathlib.Omega.{arith}
use lib.ListN.{length, take}
use Rattle.std.specs.Simd.{first_chunks}
use Rattle.model.specs.Closing.{Piece, pairs}
use Rattle.model.specs.Image.{each}
use Rattle.replaying.specs.Replaying.{piece_text, pair_text}

each_pair : (ps : List Piece) (rest : List ℕ) (k : ℕ) → length ps ≤ k → each pair_text (take (length ps) (first_chunks 2 k (pairs ps ++ rest))) ≡ each piece_text ps
unfolding each pairs
each_pair [] rest k h = refl
each_pair (p ∷ ps) rest zero h = absurd (omega arith)
each_pair (p ∷ ps) rest (suc k) h = ap (λ lines. piece_text p ++ lines) (each_pair ps rest k (omega arith))

pub lines_of_pieces : {l : List ℕ} {parts : List (List ℕ)} (rest : List ℕ) (ps : List Piece) {count k : ℕ} → count ≡ length ps → l ≡ pairs ps ++ rest → count ≤ k → parts ≡ first_chunks 2 k l → each pair_text (take count parts) ≡ each piece_text ps
lines_of_pieces rest ps {k = k} counted e low f = rw (f, e, counted) (each_pair ps rest k (omega arith))
