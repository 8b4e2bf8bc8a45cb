-- How long each section of a lot is. Assumes nothing.
use Prim.Native.Nat.{ℕ}
use mathlib.Core.Path.{◌≡◌}
use mathlib.Core.List.{List}
use native.Mathlib.Omega.{arith}
use lib.ListN.{length, take, drop, length-drop}
use lib.Seq.{length-take-le, take_all}
use Rattle.lot.specs.Layout.{SIZE, head_of, streams_of, places_of, records_of}

module _ (l : List ℕ) (size : length l ≡ SIZE) where
  pub length_head : length (head_of l) ≡ 16
  length_head = length-take-le 16 l (omega arith)

  pub length_streams : length (streams_of l) ≡ 64
  length_streams = length-take-le 64 (drop 16 l) (omega (arith, length-drop 16 l))

  pub length_places : length (places_of l) ≡ 5120
  length_places = length-take-le 5120 (drop 80 l) (omega (arith, length-drop 80 l))

  pub length_records : length (records_of l) ≡ 5120
  length_records = omega (arith, length-drop 5200 l)

  -- the last section reaches to the end
  pub records_part : take 5120 (drop 5200 l) ≡ records_of l
  records_part = take_all 5120 (drop 5200 l) (omega (arith, length_records))
