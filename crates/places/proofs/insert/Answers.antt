-- `insert` moves the places on, and puts the new one in. Assumes nothing.
use native.Mathlib.Omega.{arith}
use Rattle.places.proofs.Moves.{insert_is}
use Rattle.places.proofs.insert.Goals as goal

pub returns : goal.returns
returns c =
    let a = c.args in
    rw c.copy_from_slice.ensures.after (insert_is a.held.now a.place.now c.copy_within.new.self a.start a.end (omega arith) (omega arith) (omega arith) c.copy_within.ensures.after)
