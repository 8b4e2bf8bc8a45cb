-- The present records of one fragment. The invariant: those of the keys below k are written. Assumes nothing.
use Prim.Native.Nat.{◌+◌, ◌*◌, ◌≤◌}
use Rattle.image.specs.Saving.{Extends, fragment_bytes}
use Rattle.image.proofs.Saving.fragment.Given as goal

abbrev pub invariant-loop-k : goal.invariant-loop-k
invariant-loop-k l = (l.self.end ≤ l.initial.self.end + l.k * 8) × Extends l.initial.self l.self (fragment_bytes l.records l.i l.k)
