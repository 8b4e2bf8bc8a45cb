-- What is read stays within the buffer. Assumes nothing.
use Rattle.std.proofs.Common.{◌≤◌, length}
use Rattle.replay.proofs.read_full.Given as goal

abbrev pub invariant-loop : goal.invariant-loop
invariant-loop l = l.read ≤ length l.buffer
