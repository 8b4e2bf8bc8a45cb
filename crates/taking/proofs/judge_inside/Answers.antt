-- `judge_inside` answers 7 to 11. Assumes nothing.
use Rattle.std.proofs.lemmas.Result.{err_from_is_err_and}
use Rattle.taking.proofs.Judging.{fragment_fits, not_due}
use Rattle.taking.proofs.judge_inside.Goals as goal

pub read_counters-c-requires : goal.read_counters-c-requires
read_counters-c-requires c = rw (c.from.ensures, c.streams.ensures) (fragment_fits c.args.lot.bytes.now c.args.lot.looked c.args.e.fragment c.requires)

pub returns-in_err-judge_sequence : goal.returns-in_err-judge_sequence
returns-in_err-judge_sequence c =
    let e = err_from_is_err_and c.from_residual.result c.from_residual.ensures.1 in
    let counters = rw (c.from.ensures, c.streams.ensures) at c.read_counters-c.ensures in
    rw (e.1, e.2, ← counters) (not_due _ _ _ _ c.in_err-judge_sequence.ensures)
