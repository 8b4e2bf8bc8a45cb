-- `load_record` puts one record. Assumes nothing.
use mathlib.Core.Path.{◌∙◌}
use native.Mathlib.Omega.{arith}
use Rattle.judging.proofs.Records.{fragment_at_law, key_at}
use Rattle.image.proofs.Putting.{record_put}
use Rattle.image.proofs.load_record.Goals as goal

pub set_record-requires : goal.set_record-requires
set_record-requires c =
    let a = c in
    let r = a.args.records.now in
    (a.requires.0, omega (arith, a.requires.2.fragment, fragment_at_law r a.args.j), omega (arith, a.requires.2.key, key_at r a.args.j, c.get.ensures))

pub returns : goal.returns
returns c =
    let a = c.args in
    record_put a.lot.now _ a.records.now a.j _ _ (c.from-key.ensures ∙ c.get.ensures) c.get-value.ensures (rw c.from-fragment.ensures at c.set_record.ensures)
