-- `overview` fills in row after row: the rows of the lots below i stand, and the later ones are as they were lent. Assumes nothing.
use Rattle.std.proofs.Common.{◌≡◌}
use Rattle.overview.specs.Overview.{rows_with}
use Rattle.overview.proofs.overview.Given as goal

abbrev pub invariant-loop-i : goal.invariant-loop-i
invariant-loop-i l = l.row-items ≡ rows_with l.memory l.initial.row-items l.i
