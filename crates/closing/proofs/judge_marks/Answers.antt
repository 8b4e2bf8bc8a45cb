-- `judge_marks` answers 12. Assumes nothing.
use native.Mathlib.Omega.{arith}
use Rattle.lot.proofs.Lengths.{length_streams}
use Rattle.closing.proofs.Judging.{few_fragments, marks_are}
use Rattle.closing.proofs.judge_marks.Goals as goal

pub limits-requires : goal.limits-requires
limits-requires c = let l = c.args.lot in rw c.streams.ensures (omega (arith, few_fragments l.bytes.now l.looked, length_streams l.bytes.now l.looked.size))

pub missing_marks-requires : goal.missing_marks-requires
missing_marks-requires c = let l = c.args.lot in rw c.limits.ensures.1 (few_fragments l.bytes.now l.looked)

pub returns : goal.returns
returns c =
    let l = c.args.lot in
    let e = c.limits.ensures in
    marks_are l.bytes.now l.looked (rw (e.0, c.streams.ensures, e.1, e.3) at c.missing_marks.ensures)
