-- `read_record` answers the record, or why not. Assumes nothing.
use Rattle.std.specs.Prelude.{Ok}
use mathlib.Core.Path.{ap, ◌∙◌}
use Rattle.std.proofs.lemmas.Result.{err_from_is_err_and}
use Rattle.standby.proofs.Calls.{both_below, first_above, second_above, read_refused, read_outside, read_limits, read_found}
use Rattle.standby.proofs.read_record.Goals as goal
use Rattle.standby.proofs.read_record.Goals.{else-fragment-from-via-then-fragment-from+else-key-from, else-fragment-from-via-else-fragment-from}

pub record_at-requires : goal.record_at-requires
record_at-requires c =
    let a = c.args in
    let r = read_limits a.memory.now a.lots a.lot a.account a.fragment a.key _ c.in_ok-found.ensures.1 (both_below (rw c.from.ensures at c.if-fragment-from.true) (rw c.from-then-fragment-from.ensures at c.if-key-from.true)) in
    (r.1, r.2)

pub returns-in_err-found : goal.returns-in_err-found
returns-in_err-found c =
    let a = c.args in
    let e = err_from_is_err_and c.from_residual.result c.from_residual.ensures.1 in
    rw (e.1, e.2) (read_refused a.memory.now a.lots a.lot a.account a.fragment a.key c.in_err-found.ensures)

pub returns-then-key-from : goal.returns-then-key-from
returns-then-key-from c =
    let a = c.args in
    ap Ok (rw c.in_ok-found.ensures.0 at c.record_at.ensures)
    ∙ read_found a.memory.now a.lots a.lot a.account a.fragment a.key _ c.in_ok-found.ensures.1 (both_below (rw c.from.ensures at c.if-fragment-from.true) (rw c.from-then-fragment-from.ensures at c.if-key-from.true))

pub returns-else-fragment-from : goal.returns-else-fragment-from
returns-else-fragment-from c =
    let a = c.args in
    read_outside a.memory.now a.lots a.lot a.account a.fragment a.key _ c.in_ok-found.ensures.1
    (elim c.else-fragment-from.branch [
      | else-fragment-from-via-then-fragment-from+else-key-from w ↦ second_above (rw c.from.ensures at w.if-fragment-from.true) (rw w.from-then-fragment-from.ensures at w.if-key-from.false)
      | else-fragment-from-via-else-fragment-from w ↦ first_above _ (rw c.from.ensures at w.if-fragment-from.false)
    ])
