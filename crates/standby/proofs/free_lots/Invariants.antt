-- `free_lots` frees the first n lots. The invariant: the first i are free. Assumes nothing.
use Rattle.standby.specs.Calls.{AllFree}
use Rattle.standby.proofs.free_lots.Given as goal

abbrev pub invariant-loop-i : goal.invariant-loop-i
invariant-loop-i l = AllFree l.i l.initial.memory l.memory
