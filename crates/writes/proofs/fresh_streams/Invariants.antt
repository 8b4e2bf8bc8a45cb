-- `fresh_streams` makes all eight streams fresh. The invariant: the first i are. Assumes nothing.
use mathlib.Core.Path.{◌≡◌}
use Rattle.writes.specs.Fresh.{fresh_streams}
use Rattle.writes.proofs.fresh_streams.Given as goal

abbrev pub invariant-loop-i : goal.invariant-loop-i
invariant-loop-i l = l.streams ≡ fresh_streams l.initial.streams l.i
