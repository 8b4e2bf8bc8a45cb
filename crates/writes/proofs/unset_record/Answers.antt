-- `unset_record` deletes a record, and the other sections stay. Assumes nothing.
use mathlib.Core.Path.{ap, ◌∙◌}
use native.Mathlib.Omega.{arith}
use Rattle.lot.specs.Writing.{without_record}
use Rattle.lot.proofs.Lengths.{records_part}
use Rattle.writes.proofs.Parts.{records_lent}
use Rattle.writes.proofs.unset_record.Goals as goal

pub returns : goal.returns
returns c =
    let f = c.delete_record in
    let a = c.args in
    let e = f.ensures ∙ ap (λ r. without_record r a.i a.k) (records_part a.lot.now (omega arith)) in
    rw (← e) (records_lent a.lot.now f.new.records (omega arith) (omega arith))
