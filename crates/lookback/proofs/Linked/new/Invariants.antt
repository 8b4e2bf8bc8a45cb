-- `new` answers, for each place, the last one before it of its piece. Assumes nothing.
use mathlib.Core.Path.{◌≡◌}
use lib.ListN.{length}
use Rattle.lookback.specs.Last.{Lasts}
use Rattle.lookback.proofs.Linked.new.Given as goal

abbrev pub invariant-loop-i : goal.invariant-loop-i
invariant-loop-i l = record {
  size : length l.last ≡ 256;
  found : Lasts l.last l.held.bytes.now l.i;
  held : l.index.held ≡ l.held;
  chained : l.index.chained ≡ l.i;
}
