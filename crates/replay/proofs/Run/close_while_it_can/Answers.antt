-- Each close that is told leaves fewer epochs, and printing leaves the memory. Assumes nothing.
use Rattle.replaying.proofs.Ends.{fewer_left}
use Rattle.replay.proofs.Run.close_while_it_can.Goals as goal

pub loop-self-smaller : goal.loop-self-smaller
loop-self-smaller c = rw c.print.ensures (fewer_left c.args.account c.loop-self.self.memory c.close_next.new.memory c.in-Some.ensures.told)
