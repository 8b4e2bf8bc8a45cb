-- `open_lot` leaves a lot that holds the fresh account. Assumes nothing.
use Rattle.writes.proofs.Fresh.{opened}
use Rattle.writes.proofs.open_lot.Goals as goal

pub returns : goal.returns
returns c =
    let s = c in
    let h = c.set_head in
    let f = c.set_fresh_streams in
    let u = c.unset_records in
    opened s.args.number s.args.fragments s.args.keys s.requires.1 s.args.lot.now h.new.lot f.new.lot u.new.lot s.requires.0
    (rw c.fresh.ensures at h.ensures) f.ensures u.ensures.0 u.ensures.1
