-- `overview`: a filled row is the next of the rows that the call owes. Assumes nothing.
use Rattle.std.proofs.Common.{◌≡◌, length, arith, add-one}
use mathlib.Core.Path.{sym}
use lib.Seq.{length-take-le}
use Rattle.std.proofs.lemmas.Result.{err_from_is_err_and}
use Rattle.overview.proofs.Rows.{no_row_yet, row_more, all_filled, filled}
use Rattle.overview.proofs.overview.Goals as goal

pub returns-in_err-overview_answer : goal.returns-in_err-overview_answer
returns-in_err-overview_answer c =
    let e = err_from_is_err_and c.from_residual.result c.from_residual.ensures.1 in
    rw (e.1, e.2) (record { answer = c.in_err-overview_answer.ensures; filled = no_row_yet _ _ })

pub slice_bounds-row-items-end : goal.slice_bounds-row-items-end
slice_bounds-row-items-end c = (filled c.args.memory.now c.args.lots (length c.args.rows.now) c.in_ok-overview_answer.ensures).enough

pub slice_bounds-row-items-end-2 : goal.slice_bounds-row-items-end-2
slice_bounds-row-items-end-2 c = sym (length-take-le _ _ (filled c.args.memory.now c.args.lots (length c.args.rows.now) c.in_ok-overview_answer.ensures).enough)

pub row_in-requires : goal.row_in-requires
row_in-requires c =
    let w = filled c.args.memory.now c.args.lots (length c.args.rows.now) c.in_ok-overview_answer.ensures in
    omega (arith, w.inside, length-take-le _ _ w.enough, c.loop-i-test.true)

pub loop-i-init : goal.loop-i-init
loop-i-init c = no_row_yet _ _

pub loop-i-preserved : goal.loop-i-preserved
loop-i-preserved c = rw (c.loop-i.invariant, c.row_in.ensures, add-one) (row_more c.args.memory.now _ c.loop-i.i c.loop-i-test.true)

pub returns : goal.returns
returns c =
    let w = filled c.args.memory.now c.args.lots (length c.args.rows.now) c.in_ok-overview_answer.ensures in
    let all : c.loop-i.i ≡ c.args.lots = omega (arith, length-take-le _ _ w.enough) in
    record { answer = c.in_ok-overview_answer.ensures; filled = all_filled c.args.memory.now c.args.rows.now c.args.lots _ w.enough (rw all at c.loop-i.invariant) }
