-- `open_in` opens an account in one lot. Assumes nothing.
use native.Mathlib.Omega.{arith}
use Rattle.lots.proofs.Parts.{lent}
use Rattle.lots.proofs.open_in.Goals as goal

pub returns : goal.returns
returns c =
    let a = c.args in
    let f = c.open_lot in
    let r = c.range_of.ensures in
    rw (r.0, r.1) (lent a.memory.now a.lot f.new.lot (omega arith) (rw (r.0, r.1) at f.auto.lot) f.ensures)
