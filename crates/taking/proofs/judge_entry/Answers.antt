-- `judge_entry` answers what the account that the lot holds judges of the entry. Assumes nothing.
use mathlib.Core.Path.{sym, ◌∙◌}
use Rattle.taking.proofs.Judging.{judged}
use Rattle.taking.proofs.judge_entry.Goals as goal

pub returns : goal.returns
returns c =
    let l = c.args.lot in
    judged l.bytes.now c.args.e l.looked (sym c.fits.ensures ∙ c.if-not-fits.false) (sym c.inside.ensures ∙ c.if-not-inside.false) c.judge_inside.ensures
