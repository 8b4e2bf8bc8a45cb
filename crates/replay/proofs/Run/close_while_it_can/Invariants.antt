-- Each close leaves fewer epochs that can still be closed. Assumes nothing.
use Rattle.replaying.proofs.Ends.{epochs_left}
use Rattle.replay.proofs.Run.close_while_it_can.Given as goal

abbrev pub decreases-loop-self : goal.decreases-loop-self
decreases-loop-self l = epochs_left l.self.memory l.account
