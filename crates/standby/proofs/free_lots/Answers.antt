-- `free_lots` frees the first n lots. The invariant: the first i are free. Assumes nothing.
use Rattle.standby.proofs.Calls.{one_freed}
use Rattle.standby.proofs.free_lots.Goals as goal

pub loop-i-preserved : goal.loop-i-preserved
loop-i-preserved c = one_freed c.loop-i.i c.loop-i.invariant c.free_in.ensures
