-- `install_pieces` installs and lists the pieces by the snapshot. Assumes nothing.
use native.Mathlib.Omega.{arith}
use native.Mathlib.Numerals.{add-one}
use Rattle.epoch.proofs.Closing.{in_order_law, few, installed}
use Rattle.epoch.proofs.install_pieces.Goals as goal

pub verdicts-verdicts-requires : goal.verdicts-verdicts-requires
verdicts-verdicts-requires c = rw c.new-linked.ensures (in_order_law c.requires.fits)

pub new-requires : goal.new-requires
new-requires c = rw c.new-linked.ensures (in_order_law c.requires.fits)

pub install_all-pieces-requires-clause-few : goal.install_all-pieces-requires-clause-few
install_all-pieces-requires-clause-few c = rw (c.new.ensures.0, c.new-linked.ensures, c.new.ensures.1) (few c.requires.fits c.verdicts-verdicts.result (omega arith))

pub overflow_cast-result : goal.overflow_cast-result
overflow_cast-result c =
    let k = rw (c.new.ensures.0, c.new-linked.ensures, c.new.ensures.1) at c.install_all-pieces.ensures in
    omega (arith, k.counted, few c.requires.fits c.verdicts-verdicts.result (omega arith))

pub returns : goal.returns
returns c =
    installed c.requires.fits c.verdicts-verdicts.result (rw (add-one c.args.closed, c.new-linked.ensures) at c.verdicts-verdicts.ensures) c.requires.most c.requires.long
    (rw (c.new.ensures.0, c.new-linked.ensures, c.new.ensures.1) at c.install_all-pieces.ensures)
