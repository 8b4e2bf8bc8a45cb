-- The library's digits are the decimal text of the page. Assumes nothing.
use mathlib.Core.List.{append_assoc}
use Rattle.lines.proofs.Decimal.{decimal_of_std}
use Rattle.lines.proofs.Text.number.Goals as goal

pub returns-clause-wrote : goal.returns-clause-wrote
returns-clause-wrote c = rw (c.push_str-2.ensures.bytes, c.push_str.ensures.bytes, append_assoc, c.format.ensures.text, decimal_of_std c.args.n c.ranges.n.fits, ← c.self.view_is)
