-- `open_answer` judges an open: 1, 2, 15, 13, 14. Assumes nothing.
use mathlib.Core.Path.{sym, ap, ◌∙◌}
use native.Mathlib.Omega.{arith}
use Rattle.lots.specs.Looks.{place_in}
use Rattle.lots.proofs.Parts.{memory_long}
use Rattle.standby.proofs.Calls.{open_nowhere, open_damaged, open_unfit, open_placed}
use Rattle.standby.proofs.open_answer.Goals as goal

pub returns-then-not-memory_fits : goal.returns-then-not-memory_fits
returns-then-not-memory_fits c =
    let a = c.args in
    open_nowhere a.memory.now a.lots a.account a.fragments a.keys (sym c.memory_fits.ensures ∙ c.if-not-memory_fits.true)

pub survey_lots-s-requires : goal.survey_lots-s-requires
survey_lots-s-requires c =
    let a = c.args in
    omega (arith, memory_long a.lots a.memory.now (sym c.memory_fits.ensures ∙ c.if-not-memory_fits.false))

pub returns-then-s : goal.returns-then-s
returns-then-s c =
    let a = c.args in
    open_damaged a.memory.now a.lots a.account a.fragments a.keys (sym c.memory_fits.ensures ∙ c.if-not-memory_fits.false) (sym (ap (λ s. s.damaged) c.survey_lots-s.ensures) ∙ c.if-s.true)

pub returns-then-not-account_fits : goal.returns-then-not-account_fits
returns-then-not-account_fits c =
    let a = c.args in
    open_unfit a.memory.now a.lots a.account a.fragments a.keys (sym c.memory_fits.ensures ∙ c.if-not-memory_fits.false) (sym (ap (λ s. s.damaged) c.survey_lots-s.ensures) ∙ c.if-s.false) (sym c.account_fits.ensures ∙ c.if-not-account_fits.true)

pub returns : goal.returns
returns c =
    let a = c.args in
    c.place_in.ensures ∙ ap place_in c.survey_lots-s.ensures ∙ open_placed a.memory.now a.lots a.account a.fragments a.keys (sym c.memory_fits.ensures ∙ c.if-not-memory_fits.false) (sym (ap (λ s. s.damaged) c.survey_lots-s.ensures) ∙ c.if-s.false) (sym c.account_fits.ensures ∙ c.if-not-account_fits.false)
