-- `last_from` walks along the chain of a bucket. Assumes nothing.
use Rattle.lookback.specs.Last.{one_past, Walk}
use Rattle.lookback.proofs.Index.last_from.Given as goal

abbrev pub invariant-loop : goal.invariant-loop
invariant-loop l = Walk l.self.held.bytes.now l.piece.fragment l.piece.transaction l.self.chained (one_past l.at)
