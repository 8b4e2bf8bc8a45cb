-- `first_of` walks back to the first place of a transaction. Assumes nothing.
use mathlib.Core.Path.{◌≡◌}
use Prim.Native.Nat.{◌≤◌}
use mathlib.Core.Bool.{true}
use Rattle.install.specs.Order.{own_of}
use Rattle.install.proofs.Snapshot.first_of.Given as goal

abbrev pub invariant-loop-first : goal.invariant-loop-first
invariant-loop-first l = (l.first ≤ l.i) × (own_of l.self.linked.now.index.held.bytes.now l.i l.first ≡ true)

abbrev pub decreases-loop-first : goal.decreases-loop-first
decreases-loop-first l = l.first
