-- `put_rows` writes the rows of all lots at the front of the bytes. The invariant: the first i stand there. Assumes nothing.
use Prim.Native.Nat.{◌*◌}
use mathlib.Core.Path.{◌≡◌}
use lib.ListN.{length}
use Rattle.model.specs.Image.{each}
use Rattle.image.specs.Saving.{Written}
use Rattle.service.specs.Crossing.{row16}
use Rattle.service.specs.Writing.{rows_at}
use Rattle.service.proofs.put_rows.Given as goal

abbrev pub invariant-loop-i : goal.invariant-loop-i
invariant-loop-i l = (length l.bytes ≡ length l.initial.bytes) × Written l.initial.bytes l.bytes 0 (l.i * 16) (each row16 (rows_at l.memory l.lots l.i))
