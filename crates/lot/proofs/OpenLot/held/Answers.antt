-- An open lot holds 256 entries at most. Assumes nothing.
use native.Mathlib.Omega.{arith}
use Rattle.lot.proofs.Lengths.{length_places}
use Rattle.lot.proofs.Looked.{held_most}
use Rattle.lot.proofs.OpenLot.held.Goals as goal

pub new-requires : goal.new-requires
new-requires c =
    let o = c.args.self in
    let few = held_most o.bytes.now o.looked in
    let count = c.from.ensures in
    (omega (arith, count, few), omega (arith, count, few, length_places o.bytes.now o.looked.size))
