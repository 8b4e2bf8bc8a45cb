-- `deliver_in` delivers to the lot that is lent. Assumes nothing.
use native.Mathlib.Omega.{arith}
use Rattle.standby.proofs.Delivering.{delivered_in}
use Rattle.standby.proofs.deliver_in.Goals as goal

pub returns : goal.returns
returns c =
    let a = c.args in
    let f = c.deliver_lot in
    let r = c.range_of.ensures in
    rw (r.0, r.1) (delivered_in a.memory.now a.lot f.new.lot (omega arith) (rw (r.0, r.1) at f.auto.lot) a.account a.entry.now f.result (rw (r.0, r.1) at f.ensures))
