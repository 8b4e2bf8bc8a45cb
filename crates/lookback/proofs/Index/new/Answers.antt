-- `new` chains no place. Assumes nothing.
use native.Mathlib.Omega.{arith}
use Rattle.lookback.proofs.Chains.{indexed_none}
use Rattle.lookback.proofs.Index.new.Goals as goal

pub invariant_of-result : goal.invariant_of-result
invariant_of-result c = record { within = omega arith; indexed = indexed_none _ }
