-- `load_answer` judges a load: 1, 2, 17, 13, 14. Assumes nothing.
use mathlib.Core.Path.{◌≡◌, sym, ap, ◌∙◌}
use Rattle.std.proofs.Common.{rules}
use Rattle.std.specs.Prelude.{Some}
use native.Mathlib.Omega.{arith}
use Rattle.std.proofs.lemmas.Result.{err_from_is_err_and}
use Rattle.lots.specs.Looks.{place_in}
use Rattle.lots.proofs.Parts.{memory_long}
use Rattle.standby.proofs.Loading.{load_nowhere, load_damaged, not_judged, is_judged, some_holds, load_refused, load_placed}
use Rattle.standby.proofs.load_answer.Goals as goal

pub returns-then-not-memory_fits : goal.returns-then-not-memory_fits
returns-then-not-memory_fits c =
    let a = c.args in
    load_nowhere a.memory.now a.lots a.«data».now (sym c.memory_fits.ensures ∙ c.if-not-memory_fits.true)

pub survey_lots-survey-requires : goal.survey_lots-survey-requires
survey_lots-survey-requires c =
    let a = c.args in
    omega (arith, memory_long a.lots a.memory.now (sym c.memory_fits.ensures ∙ c.if-not-memory_fits.false))

pub returns-then-survey : goal.returns-then-survey
returns-then-survey c =
    let a = c.args in
    load_damaged a.memory.now a.lots a.«data».now (sym c.memory_fits.ensures ∙ c.if-not-memory_fits.false) _ (sym (ap (λ s. s.damaged) c.survey_lots-survey.ensures) ∙ c.if-survey.true)

pub returns-in_err-t : goal.returns-in_err-t
returns-in_err-t c =
    let a = c.args in
    let e = err_from_is_err_and c.from_residual.result c.from_residual.ensures.1 in
    let j = not_judged c.judge_image-judged.result c.in_err-t.ensures.value in
    rw (e.1, e.2, j.1) (load_refused a.memory.now a.lots a.«data».now (sym c.memory_fits.ensures ∙ c.if-not-memory_fits.false) _ (sym (ap (λ s. s.damaged) c.survey_lots-survey.ensures) ∙ c.if-survey.false) (sym c.judge_image-judged.ensures ∙ j.0))

pub returns-in_err-lot : goal.returns-in_err-lot
returns-in_err-lot c =
    let a = c.args in
    let e = err_from_is_err_and c.from_residual-in_err-lot.result c.from_residual-in_err-lot.ensures.1 in
    let j = is_judged c.judge_image-judged.result c.in_ok-t.ensures.value in
    let n : c.map.result ≡ Some c.in_ok-t.t.account.number = some_holds _ _ _ (rw j at c.map.ensures.cases) (λ r w. search (rules)) in
    rw (e.1, e.2)
    (load_placed a.memory.now a.lots a.«data».now (sym c.memory_fits.ensures ∙ c.if-not-memory_fits.false) _ (sym (ap (λ s. s.damaged) c.survey_lots-survey.ensures) ∙ c.if-survey.false) (sym c.judge_image-judged.ensures ∙ j) n
    ∙ ap place_in (sym c.survey_lots-survey.ensures) ∙ sym c.place_in.ensures ∙ c.in_err-lot.was)

pub returns : goal.returns
returns c =
    let a = c.args in
    let j = is_judged c.judge_image-judged.result c.in_ok-t.ensures.value in
    let n : c.map.result ≡ Some c.in_ok-t.t.account.number = some_holds _ _ _ (rw j at c.map.ensures.cases) (λ r w. search (rules)) in
    let shown = sym c.judge_image-judged.ensures ∙ j in (
      load_placed a.memory.now a.lots a.«data».now (sym c.memory_fits.ensures ∙ c.if-not-memory_fits.false) _ (sym (ap (λ s. s.damaged) c.survey_lots-survey.ensures) ∙ c.if-survey.false) shown n
          ∙ ap place_in (sym c.survey_lots-survey.ensures) ∙ sym c.place_in.ensures ∙ c.in_ok-lot.was,
      shown,
    )
