-- `take_entry` leaves the lot holding the account with the entry taken. Assumes nothing.
use native.Mathlib.Omega.{arith}
use Rattle.taking.proofs.TakenEntry.{limits, marked, held}
use Rattle.std.proofs.Common.{eq-eqb, ne_eqb}
use Rattle.taking.proofs.take_entry.Goals as goal

pub read-e-requires : goal.read-e-requires
read-e-requires c = omega (arith, (limits c.args.lot.now c.args.bytes.now c.requires).long)

pub step_stream-open-requires : goal.step_stream-open-requires
step_stream-open-requires c =
    let m = limits c.args.lot.now c.args.bytes.now c.requires in
    rw (c.from.ensures, c.read-e.ensures) (c.requires.looked.size, m.fragment, m.mark)

pub returns-then-mark : goal.returns-then-mark
returns-then-mark c =
    marked c.args.lot.now c.args.bytes.now c.requires c.step_stream-open.new.lot (rw (c.from.ensures, c.read-e.ensures) at c.step_stream-open.ensures) (eq-eqb _ _ (rw c.read-e.ensures at c.if-mark.true))

pub hold_in-requires : goal.hold_in-requires
hold_in-requires c =
    let m = limits c.args.lot.now c.args.bytes.now c.requires in
    (omega (arith, c.requires.looked.size, c.step_stream-open.auto.lot), rw c.from-2.ensures (m.room (ne_eqb _ _ (rw c.read-e.ensures at c.if-mark.false))), m.long)

pub one_more-requires : goal.one_more-requires
one_more-requires c = (limits c.args.lot.now c.args.bytes.now c.requires).room (ne_eqb _ _ (rw c.read-e.ensures at c.if-mark.false))

pub returns : goal.returns
returns c =
    held c.args.lot.now c.args.bytes.now c.requires c.step_stream-open.new.lot c.hold_in.new.lot c.set_head.new.lot
    (rw (c.from.ensures, c.read-e.ensures) at c.step_stream-open.ensures) (ne_eqb _ _ (rw c.read-e.ensures at c.if-mark.false)) (rw c.from-2.ensures at c.hold_in.ensures) (rw c.one_more.ensures at c.set_head.ensures)
