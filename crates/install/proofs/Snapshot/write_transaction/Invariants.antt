-- `write_transaction` applies the writes of a transaction that stand before a place. Assumes nothing.
use mathlib.Core.Path.{◌≡◌}
use Prim.Native.Nat.{◌≤◌, ◌-◌}
use mathlib.Core.Bool.{true}
use lib.ListN.{length}
use Rattle.install.specs.Order.{own_of}
use Rattle.install.proofs.Ordered.{Walked}
use Rattle.install.proofs.Snapshot.write_transaction.Given as goal

abbrev pub invariant-loop-at : goal.invariant-loop-at
invariant-loop-at l = (l.at ≤ l.i) × (length l.records ≡ 5120) × (own_of l.self.linked.now.index.held.bytes.now l.i l.at ≡ true) × Walked l.self.linked.now.index.held.bytes.now l.initial.records l.i l.records l.at

abbrev pub decreases-loop-at : goal.decreases-loop-at
decreases-loop-at l = l.i - l.at
