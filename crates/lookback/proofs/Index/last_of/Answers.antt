-- `last_of` begins at the head of the bucket. Assumes nothing.
use Rattle.lookback.proofs.Chains.{walk_start}
use Rattle.lookback.proofs.Index.last_of.Goals as goal

pub last_from-requires : goal.last_from-requires
last_from-requires c = walk_start _ _ _ _ _ _ c.args.self.now.indexed _ c.bucket.ensures.0 c.bucket.ensures.1
