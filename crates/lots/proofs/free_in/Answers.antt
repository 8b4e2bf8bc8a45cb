-- `free_in` frees one lot. Assumes nothing.
use Rattle.lots.proofs.Parts.{part, lent}
use mathlib.Core.Path.{◌∙◌, ap}
use native.Mathlib.Omega.{arith}
use Rattle.lot.specs.View.{view_lot}
use Rattle.writes.proofs.Fresh.{freed}
use Rattle.lots.proofs.free_in.Goals as goal

pub returns : goal.returns
returns c =
    let a = c.args in
    let f = c.free_lot in
    let r = c.range_of.ensures in
    rw (r.0, r.1) (lent a.memory.now a.lot f.new.lot (omega arith) (rw (r.0, r.1) at f.auto.lot) (ap view_lot (rw (r.0, r.1) at f.ensures) ∙ freed (part a.memory.now a.lot)))
