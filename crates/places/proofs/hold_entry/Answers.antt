-- `hold_entry` puts the entry, as it is held, at the end of its stream's entries. Assumes nothing.
use native.Mathlib.Omega.{arith}
use mathlib.Core.Path.{refl}
use Rattle.places.proofs.Placed.{hold_is}
use Rattle.places.proofs.hold_entry.Goals as goal

pub returns : goal.returns
returns c =
    let a = c.args in
    hold_is a.held.now c.insert.new.held a.entry.now _ c.put.new.s c.put-2.new.s a.n a.epoch c.end_of-p.result
    (omega arith) (omega arith) (omega arith) (omega (arith, c.ranges)) c.end_of-p.ensures.0 c.end_of-p.ensures.1 (rw c.copy_from_slice.ensures.after refl) c.put.ensures c.put-2.ensures c.insert.ensures
