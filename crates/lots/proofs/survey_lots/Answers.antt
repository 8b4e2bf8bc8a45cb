-- `survey_lots` answers what all lots are, for a call that opens an account. The invariant: it has what the first i lots are. Assumes nothing.
use native.Mathlib.Numerals.{add-one}
use Rattle.lots.specs.Memory.{some_below, lowest_below}
use Rattle.lots.specs.Looks.{survey_of}
use Rattle.lots.proofs.Looks.{survey_more}
use Rattle.lots.proofs.survey_lots.Goals as goal

pub loop-i-init : goal.loop-i-init
unfolding survey_of some_below lowest_below
loop-i-init c = let d = c.default-s.ensures in λ i. record { damaged = d.0 i; known = d.1.0 i; free = d.1.1 i }

pub loop-i-preserved : goal.loop-i-preserved
loop-i-preserved c = cc (c.with_look-s.ensures, c.look_in.ensures, c.loop-i.invariant, survey_more c.args.memory.now c.args.account c.loop-i.i, add-one c.loop-i.i)
