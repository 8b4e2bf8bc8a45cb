-- `lot_in` answers the bytes of one lot. Assumes nothing.
use Rattle.lots.proofs.Parts.{part_is}
use Rattle.lots.proofs.lot_in.Goals as goal

pub returns : goal.returns
returns c = rw (c.range_of.ensures.0, c.range_of.ensures.1) (part_is c.args.memory.now c.args.lot)
