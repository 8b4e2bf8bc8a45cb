-- A section whose first bytes are written: what a copy into its lent part leaves. Assumes nothing.
use Prim.Native.Nat.{ℕ, ◌≤◌}
use mathlib.Core.Path.{◌≡◌, ◌∙◌}
use mathlib.Core.List.{List, ◌++◌}
use native.Mathlib.Omega.{arith}
use lib.ListN.{length, take, drop, length-append, length-drop}
use lib.Seq.{take-length}
use Rattle.lot.specs.Layout.{SIZE, streams_of, places_of}
use Rattle.lot.proofs.Lengths.{length_streams, length_places}
use Rattle.writes.specs.Sections.{WithStreams, WithPlaces, overwritten}
use Rattle.writes.proofs.Parts.{streams_lent, places_lent}

module _ (l x q : List ℕ) (size : length l ≡ SIZE) where
  left : (s : List ℕ) → q ≡ take (length x) x ++ drop (length x) s → q ≡ overwritten x s
  left s e = e ∙ rw (take-length x)

  long : (s : List ℕ) → length x ≤ length s → length (overwritten x s) ≡ length s
  long s h = omega (arith, length-append x (drop (length x) s), length-drop (length x) s)

  pub streams_overwritten : length x ≤ 64 → q ≡ take (length x) x ++ drop (length x) (streams_of l) → WithStreams l (take 16 l ++ (q ++ drop 64 (drop 16 l))) (overwritten x (streams_of l))
  streams_overwritten h e =
      let s = streams_of l in
      rw (left s e) (streams_lent l (overwritten x s) size (long s (omega (arith, length_streams l size)) ∙ length_streams l size))

  pub places_overwritten : length x ≤ 5120 → q ≡ take (length x) x ++ drop (length x) (places_of l) → WithPlaces l (take 80 l ++ (q ++ drop 5120 (drop 80 l))) (overwritten x (places_of l))
  places_overwritten h e =
      let p = places_of l in
      rw (left p e) (places_lent l (overwritten x p) size (long p (omega (arith, length_places l size)) ∙ length_places l size))
