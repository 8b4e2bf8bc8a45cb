-- `flagged_at` tests the place that looking back answers. Assumes nothing.
use mathlib.Core.Path.{refl}
use Rattle.std.proofs.Common.{rules}
use Rattle.verdicts.specs.Verdicts.{flagged_at}
use Rattle.verdicts.proofs.Backwards.{tested}
use Rattle.verdicts.proofs.Closing.flagged_at.Goals as goal

pub returns : goal.returns
unfolding flagged_at
returns c = let h = c.args.self.now.linked.now.index.held.bytes.now in tested _ h (flagged_at h) _ _ refl (λ i e. search rules) (rw c.place_at.ensures at c.is_some_and.ensures)
