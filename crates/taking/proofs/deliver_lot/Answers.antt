-- `deliver_lot` delivers to the account that the lot holds, if it is the named one. Assumes nothing.
use Rattle.std.proofs.lemmas.Result.{err_from_is_err_and}
use Rattle.taking.proofs.Answers.{refused, done}
use Rattle.taking.proofs.deliver_lot.Goals as goal

pub returns-in_err-judge_lot : goal.returns-in_err-judge_lot
returns-in_err-judge_lot c =
    let e = err_from_is_err_and c.from_residual-in_err-judge_lot.result c.from_residual-in_err-judge_lot.ensures.1 in
    let f = c.in_ok-found.ensures in
    rw (e.1, e.2) (refused c.args.lot.now c.args.bytes.now c.args.number f.1 (rw f.0 at c.in_err-judge_lot.ensures))

pub returns : goal.returns
returns c =
    let f = c.in_ok-found.ensures in
    done c.args.lot.now c.args.bytes.now c.args.number f.1 c.take_entry.new.lot (rw f.0 at c.in_ok-judge_lot.ensures) c.take_entry.ensures
