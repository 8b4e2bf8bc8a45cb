-- `nexts` finds, for each place, the next one of its transaction. Assumes nothing.
use mathlib.Core.Path.{◌≡◌}
use lib.ListN.{length}
use Rattle.install.specs.Order.{Nexts}
use Rattle.install.proofs.nexts.Given as goal

abbrev pub invariant-loop-i : goal.invariant-loop-i
invariant-loop-i l = (length l.next ≡ 256) × Nexts l.next l.linked.index.held.bytes.now l.i
