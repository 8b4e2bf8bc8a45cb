-- The pairs are printed one after the other. Assumes nothing.
use Rattle.std.proofs.Common.{◌≡◌, ◌+◌, ◌*◌, ◌≤◌, ◌++◌, length, take}
use Rattle.model.specs.Image.{each}
use Rattle.replaying.specs.Replaying.{pair_text}
use Rattle.replaying.proofs.put_pieces.Given as goal

abbrev pub invariant-loop-fragment : goal.invariant-loop-fragment
invariant-loop-fragment l = (length l.out ≤ length l.initial.out + 70 * l.fragment-index) × (l.out ≡ l.initial.out ++ each pair_text (take l.fragment-index l.pieces))
