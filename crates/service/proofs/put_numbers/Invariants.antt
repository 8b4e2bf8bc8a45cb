-- `put_numbers` writes the numbers at the front of the bytes. The invariant: the first i stand there. Assumes nothing.
use Prim.Native.Nat.{◌*◌}
use mathlib.Core.Path.{◌≡◌}
use lib.ListN.{length, take}
use Rattle.wire.specs.Numbers.{bytes32}
use Rattle.model.specs.Image.{each}
use Rattle.image.specs.Saving.{Written}
use Rattle.service.proofs.put_numbers.Given as goal

abbrev pub invariant-loop-i : goal.invariant-loop-i
invariant-loop-i l = (length l.bytes ≡ length l.initial.bytes) × Written l.initial.bytes l.bytes 0 (l.i * 4) (each bytes32 (take l.i l.numbers))
