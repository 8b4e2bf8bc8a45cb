-- `overview_answer` judges an overview: 1, 16. Assumes nothing.
use mathlib.Core.Path.{sym, ◌∙◌}
use Rattle.overview.proofs.Answers.{overview_nowhere, overview_short, overview_done}
use Rattle.overview.proofs.overview_answer.Goals as goal

pub returns-then-not-memory_fits : goal.returns-then-not-memory_fits
returns-then-not-memory_fits c =
    let a = c.args in
    overview_nowhere a.memory.now a.lots a.rows (sym c.memory_fits.ensures ∙ c.if-not-memory_fits.true)

pub returns-then-rows-lots : goal.returns-then-rows-lots
returns-then-rows-lots c =
    let a = c.args in
    overview_short a.memory.now a.lots a.rows (sym c.memory_fits.ensures ∙ c.if-not-memory_fits.false) c.if-rows-lots.true

pub returns : goal.returns
returns c =
    let a = c.args in
    overview_done a.memory.now a.lots a.rows (sym c.memory_fits.ensures ∙ c.if-not-memory_fits.false) c.if-rows-lots.false
