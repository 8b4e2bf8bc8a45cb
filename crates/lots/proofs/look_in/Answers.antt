-- `look_in` answers what the lot means. Assumes nothing.
use Rattle.lots.proofs.Parts.{lot_long}
use Rattle.lots.proofs.Looks.{looks}
use Rattle.lots.proofs.look_in.Goals as goal

pub look_at-requires : goal.look_at-requires
look_at-requires c = rw c.lot_in.ensures (lot_long c.args.memory.now c.args.lot c.requires)

pub returns : goal.returns
returns c = rw (c.look_at.ensures, c.lot_in.ensures) (looks c.args.memory.now c.args.lot)
