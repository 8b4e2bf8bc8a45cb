-- `stream_end` finds where the places of a stream end. Assumes nothing.
use Prim.Native.Nat.{ℕ, ◌<◌, ◌+◌}
use Rattle.model.specs.Section.{item_at}
use Rattle.install.proofs.Snapshot.stream_end.Given as goal

abbrev pub invariant-loop-i : goal.invariant-loop-i
invariant-loop-i l = (j : ℕ) → j < l.i → (item_at l.self.linked.now.index.held.bytes.now j).stream < l.fragment + 1
