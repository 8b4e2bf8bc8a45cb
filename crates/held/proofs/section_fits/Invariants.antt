-- `section_fits` is the test of a held section. Assumes nothing.
use mathlib.Core.Path.{◌≡◌}
use mathlib.Core.Bool.{true}
use Rattle.model.specs.Decoding.{counters_of, parse}
use Rattle.model.specs.Section.{section_fits}
use Rattle.held.proofs.section_fits.Given as goal

abbrev pub invariant-loop-i : goal.invariant-loop-i
invariant-loop-i l = record {
  fits : section_fits l.limits.keys l.limits.closed (parse l.limits.fragments 8 counters_of l.limits.streams.now) l.i l.held.bytes.now ≡ true;
  held : l.index.held ≡ l.held;
  chained : l.index.chained ≡ l.i;
}
