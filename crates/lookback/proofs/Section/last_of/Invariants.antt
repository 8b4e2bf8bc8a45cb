-- `last_of` finds the last place of a piece, backwards. Assumes nothing.
use mathlib.Core.Path.{◌≡◌}
use Rattle.lookback.specs.Last.{last_with, is_of}
use Rattle.lookback.proofs.Section.last_of.Given as goal

abbrev pub invariant-loop-i : goal.invariant-loop-i
invariant-loop-i l =
    last_with (is_of l.self.bytes.now l.piece.fragment l.piece.transaction) l.end ≡ last_with (is_of l.self.bytes.now l.piece.fragment l.piece.transaction) l.i
