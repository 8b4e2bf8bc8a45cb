-- `verdicts` answers the verdict on each place. Assumes nothing.
use Rattle.verdicts.proofs.Backwards.{Found}
use Rattle.verdicts.proofs.verdicts.Given as goal

abbrev pub invariant-loop-i : goal.invariant-loop-i
invariant-loop-i l = Found l.linked.index.held.bytes.now l.linked.index.held.count l.epoch l.answers l.i
