-- `put_rows` writes the rows of all lots at the front of the bytes. The invariant: the first i stand there. Assumes nothing.
use Rattle.std.proofs.Common.{◌≡◌, ◌∙◌, ◌/◌, length, refl, ap, arith}
use Rattle.std.proofs.lemmas.Result.{err_from_is_err_and}
use borrow.Author.Rules.{rules}
use Rattle.model.specs.Lists.{upward}
use Rattle.overview.specs.Overview.{rows_for}
use Rattle.overview.proofs.Rows.{filled}
use Rattle.service.specs.Crossing.{row16}
use Rattle.service.proofs.Bytes.{none_yet, row_more}
use Rattle.service.proofs.Rows.{rows_filled}
use Rattle.service.proofs.put_rows.Goals as goal

pub loop-i-init : goal.loop-i-init
unfolding upward
loop-i-init c = (refl, none_yet row16 c.args.bytes.now)

pub put_row-requires : goal.put_row-requires
put_row-requires c =
    let w = filled c.args.memory.now c.args.lots (length c.args.bytes.now / 16) c.in_ok-overview_answer.ensures in
    omega (arith, w.enough, c.loop-i.invariant.0)

pub returns-in_err-overview_answer : goal.returns-in_err-overview_answer
unfolding upward
returns-in_err-overview_answer c =
    let a = c.args in
    let e = err_from_is_err_and c.from_residual.result c.from_residual.ensures.1 in
    rw (e.1, e.2, c.in_err-overview_answer.ensures) (rows_filled a.memory.now a.lots a.bytes.now (λ i. search rules) (ap (rows_for a.lots) c.in_err-overview_answer.ensures) (none_yet row16 a.bytes.now))

pub loop-i-preserved : goal.loop-i-preserved
loop-i-preserved c =
    let l = c.loop-i in
    (c.put_row.auto.bytes ∙ l.invariant.0, row_more c.args.memory.now c.args.lots l.i l.invariant.1 (rw c.row_at.ensures at c.put_row.ensures))

pub returns : goal.returns
returns c =
    let a = c.args in
    let all : c.loop-i.i ≡ a.lots = omega arith in
    rw c.in_ok-overview_answer.ensures (rows_filled a.memory.now a.lots a.bytes.now (λ i. search rules) (ap (rows_for a.lots) c.in_ok-overview_answer.ensures) (rw all at c.loop-i.invariant.1))
