-- `has_tag` compares the four bytes of a tag. Assumes nothing.
use Rattle.std.proofs.Common.{◌∙◌, ap}
use Rattle.model.specs.Decoding.{same}
use Rattle.lot.proofs.Heads.{same_law, tag_spelled}
use Rattle.lot.proofs.has_tag.Goals as goal

pub returns : goal.returns
returns c = c.eq.ensures ∙ same_law _ c.args.tag ∙ ap (λ t. same t c.args.tag) (tag_spelled c.args.head.now c.requires)
