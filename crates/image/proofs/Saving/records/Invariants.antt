-- The present records of an account. The invariant: those of the fragments below i are written. Assumes nothing.
use Prim.Native.Nat.{◌+◌, ◌*◌, ◌≤◌}
use Rattle.image.specs.Saving.{Extends, record_bytes}
use Rattle.image.proofs.Saving.records.Given as goal

abbrev pub invariant-loop-i : goal.invariant-loop-i
invariant-loop-i l = (l.self.end ≤ l.initial.self.end + l.i * 1024) × Extends l.initial.self l.self (record_bytes l.records l.account.keys l.i)
