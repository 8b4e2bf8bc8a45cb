-- `install_all` installs the pieces of all streams. Assumes nothing.
use mathlib.Core.Path.{◌≡◌}
use lib.ListN.{length}
use Rattle.install.specs.Order.{StreamsBelow}
use Rattle.install.specs.Pieces.{InstalledAll}
use Rattle.install.specs.Stream.{Same}
use Rattle.install.proofs.Snapshot.install_all.Given as goal

abbrev pub invariant-loop-fragment : goal.invariant-loop-fragment
invariant-loop-fragment l =
    let h = l.self.linked.now.index.held.bytes.now in
    let n = l.self.linked.now.index.held.count in
    Same l.initial.output l.output × (length l.output.list.now ≡ length l.initial.output.list.now)
    × InstalledAll l.self.verdicts.now h n l.fragment l.initial.output.list.now l.output.list.now l.initial.output.records.now l.output.records.now l.output.pieces × StreamsBelow h n l.fragment l.start
