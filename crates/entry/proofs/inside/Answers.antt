-- `inside` is refusal 6's test. Assumes nothing.
use Rattle.model.specs.Entry.{inside}
use Rattle.entry.proofs.inside.Goals as goal

pub returns : goal.returns
unfolding inside
returns c = c.in_account.ensures
