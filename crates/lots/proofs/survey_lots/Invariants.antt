-- `survey_lots` answers what all lots are, for a call that opens an account. The invariant: it has what the first i lots are. Assumes nothing.
use mathlib.Core.Path.{◌≡◌}
use Rattle.lots.specs.Looks.{survey_of}
use Rattle.lots.proofs.survey_lots.Given as goal

abbrev pub invariant-loop-i : goal.invariant-loop-i
invariant-loop-i l = l.s ≡ survey_of l.memory l.account l.i
