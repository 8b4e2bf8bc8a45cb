-- `judge_sequence` goes by the sign of the distance. Assumes nothing.
use Rattle.entry.specs.Sequence.{sequence_of}
use Rattle.entry.proofs.Distances.{tests_below, tests_above}
use Rattle.entry.proofs.judge_sequence.Goals as goal

pub returns-then-d-lt0 : goal.returns-then-d-lt0
unfolding sequence_of
returns-then-d-lt0 c =
    let d = c.distance-d in
    rw (← d.ensures, tests_below d.result d.type_inv c.if-d-lt0.true)

pub returns-then-d-gt0 : goal.returns-then-d-gt0
unfolding sequence_of
returns-then-d-gt0 c =
    let d = c.distance-d in
    rw (← d.ensures, tests_below d.result d.type_inv c.if-d-lt0.false, tests_above d.result d.type_inv c.if-d-gt0.true)

pub returns-else-d-gt0 : goal.returns-else-d-gt0
unfolding sequence_of
returns-else-d-gt0 c =
    let d = c.distance-d in
    rw (← d.ensures, tests_below d.result d.type_inv c.if-d-lt0.false, tests_above d.result d.type_inv c.if-d-gt0.false)
