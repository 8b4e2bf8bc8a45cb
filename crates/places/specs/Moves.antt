-- A move of 20 bytes within a list of bytes.
use Rattle.std.specs.Prelude.{ℕ, ◌+◌, List, ◌++◌, take, drop}
use Rattle.std.proofs.Math.Seq.{slice}

-- l with the 20 bytes r put in at start, and what stood from there up to end moved on
unfoldable pub inserted : List ℕ → ℕ → ℕ → List ℕ → List ℕ
inserted l start end r = take start l ++ (r ++ (slice start end l ++ drop (end + 20) l))
