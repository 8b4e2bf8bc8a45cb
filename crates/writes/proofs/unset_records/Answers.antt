-- `unset_records` makes every record absent, and the other sections stay. Assumes nothing.
use mathlib.Core.Path.{refl}
use native.Mathlib.Omega.{arith}
use Rattle.writes.proofs.Fresh.{all_zero}
use Rattle.writes.proofs.Parts.{records_lent}
use Rattle.writes.proofs.unset_records.Goals as goal

pub returns : goal.returns
returns c =
    let f = c.fill in
    let s = records_lent c.args.lot.now f.new.self (omega arith) (omega arith) in
    (record { head = s.head; streams = s.streams; places = s.places; records = refl }, rw s.records (all_zero _ _ (f.ensures.after (λ y h. h))))
