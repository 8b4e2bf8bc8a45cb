-- `judge_image` answers what the model's load does. Assumes nothing.
use mathlib.Core.Path.{sym, ◌∙◌}
use native.Mathlib.Omega.{arith}
use Rattle.judging.proofs.Passing.{too_short, not_signed, trailer_unfit, within_data, limits, all_judged}
use Rattle.judging.proofs.judge_image.Goals as goal

pub returns-in_err-last : goal.returns-in_err-last
returns-in_err-last c = c.from_residual.ensures ∙ too_short _ c.in_err-last.ensures.cases

pub returns-then-not-is_signed : goal.returns-then-not-is_signed
returns-then-not-is_signed c = not_signed _ _ c.in_ok-last.ensures.cases.1.same (sym c.is_signed.ensures ∙ c.if-not-is_signed.true)

pub returns-then-not-trailer_fits : goal.returns-then-not-trailer_fits
returns-then-not-trailer_fits c = trailer_unfit _ _ c.in_ok-last.ensures.cases.1.same (sym c.trailer_fits.ensures ∙ c.if-not-trailer_fits.true)

pub overflow_sub-image : goal.overflow_sub-image
overflow_sub-image c = within_data _ _ c.in_ok-last.ensures.cases.1.same (sym c.trailer_fits.ensures ∙ c.if-not-trailer_fits.false) _ c.read-t.ensures

pub sections_fit-requires : goal.sections_fit-requires
sections_fit-requires c = limits _ _ c.in_ok-last.ensures.cases.1.same (sym c.trailer_fits.ensures ∙ c.if-not-trailer_fits.false) _ c.read-t.ensures

pub returns : goal.returns
returns c =
    c.then_some.ensures
    ∙ all_judged _ _ c.in_ok-last.ensures.cases.1.same (sym c.trailer_fits.ensures ∙ c.if-not-trailer_fits.false) _ c.read-t.ensures
    (λ i. omega (arith, c.type_inv.«data» i)) c.in_ok-last.ensures.cases.0 (sym c.is_signed.ensures ∙ c.if-not-is_signed.false) _ c.sections_fit.ensures
