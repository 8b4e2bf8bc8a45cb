-- `commits_at` tests the place that looking back answers. Assumes nothing.
use mathlib.Core.Path.{refl}
use Rattle.std.proofs.Common.{rules}
use Rattle.verdicts.specs.Verdicts.{commits_at}
use Rattle.verdicts.proofs.Backwards.{tested}
use Rattle.verdicts.proofs.Closing.commits_at.Goals as goal

pub returns : goal.returns
unfolding commits_at
returns c =
    let s = c.args.self.now in
    let h = s.linked.now.index.held.bytes.now in
    tested _ h (commits_at h s.epoch) _ _ refl (λ i e. search rules) (rw c.place_at.ensures at c.is_some_and.ensures)
