-- `close_in` closes in the lot that is lent. Assumes nothing.
use native.Mathlib.Omega.{arith}
use Rattle.standby.proofs.Closing.{closed_in}
use Rattle.standby.proofs.close_in.Goals as goal

pub returns : goal.returns
returns c =
    let f = c.close_lot in
    let a = c.args in
    let r = c.range_of.ensures in
    rw (r.0, r.1) (closed_in a.memory.now a.lot f.new.lot (omega arith) (rw (r.0, r.1) at f.auto.lot) a.account a.list.now f.new.list f.result (rw (r.0, r.1) at f.ensures))
