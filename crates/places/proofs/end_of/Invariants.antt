-- `end_of` finds the end of a stream's entries, backwards. Assumes nothing.
use mathlib.Core.Path.{◌≡◌}
use Rattle.places.specs.Places.{end_of}
use Rattle.places.proofs.end_of.Given as goal

abbrev pub invariant-loop-i : goal.invariant-loop-i
invariant-loop-i l = end_of l.held l.n l.fragment ≡ end_of l.held l.i l.fragment
