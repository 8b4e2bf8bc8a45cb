-- `install_sort` installs the pieces of a stream of one sort, by position. Assumes nothing.
use Rattle.install.specs.Pieces.{pieces_till}
use Rattle.install.specs.Stream.{Same, Installs}
use Rattle.install.proofs.Stream.install_sort.Given as goal

abbrev pub invariant-loop-i : goal.invariant-loop-i
invariant-loop-i l =
    Same l.initial.output l.output × Installs l.self (pieces_till l.self.snapshot.now.verdicts.now l.self.snapshot.now.linked.now.index.held.bytes.now l.self.fragment l.sort l.i) l.initial.output l.output
