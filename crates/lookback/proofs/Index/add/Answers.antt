-- `add` looks for the last place along the bucket's chain, and chains the next one. Assumes nothing.
use Rattle.lookback.proofs.Chains.{walk_start}
use Rattle.lookback.proofs.Index.add.Goals as goal

pub last_from-last-requires : goal.last_from-last-requires
last_from-last-requires c = walk_start _ _ _ _ _ _ c.args.self.now.indexed _ c.bucket-b.ensures.0 c.bucket-b.ensures.1
