-- `missing_byte` makes the byte of missing streams. Assumes nothing.
use mathlib.Core.Path.{◌≡◌}
use Rattle.model.specs.Lists.{bits_of}
use Rattle.epoch.specs.Missing.{missing_in}
use Rattle.epoch.proofs.missing_byte.Given as goal

abbrev pub invariant-loop-i : goal.invariant-loop-i
invariant-loop-i l = l.byte ≡ bits_of (missing_in l.limits.streams.now l.limits.closed) l.i
