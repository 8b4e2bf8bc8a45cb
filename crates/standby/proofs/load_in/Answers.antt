-- `load_in` loads accepted data into the lot that is lent. Assumes nothing.
use native.Mathlib.Omega.{arith}
use lib.ListN.{length-take, length-drop}
use Rattle.lots.proofs.Parts.{lent}
use Rattle.standby.proofs.load_in.Goals as goal

pub load_lot-requires : goal.load_lot-requires
load_lot-requires c =
    let s = c in
    let r = c.range_of.ensures in
    (rw (r.0, r.1) (simp (length-take, length-drop) (omega arith)), s.requires.1)

pub returns : goal.returns
returns c =
    let s = c.args in
    let f = c.load_lot in
    let r = c.range_of.ensures in
    λ a e. rw (r.0, r.1) (lent s.memory.now s.lot f.new.lot (omega arith) (rw (r.0, r.1) at f.auto.lot) (f.ensures a e))
