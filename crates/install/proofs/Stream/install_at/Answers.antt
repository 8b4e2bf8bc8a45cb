-- `install_at` installs a place if it is a piece. Assumes nothing.
use Rattle.install.proofs.Installing.{at_none, at_one}
use mathlib.Core.Path.{sym, ◌∙◌}
use Rattle.install.proofs.Stream.install_at.Goals as goal

pub returns-then-is_piece-clause-installs : goal.returns-then-is_piece-clause-installs
returns-then-is_piece-clause-installs c =
    let k = c.list_piece.ensures in
    rw k.counted (at_one _ _ _ _ _ _ _ _ _ _ (sym c.is_piece.ensures ∙ c.if-is_piece.true) (rw c.place.ensures at k.listed) (rw k.records at c.write_transaction.ensures))

pub returns-else-is_piece-clause-installs : goal.returns-else-is_piece-clause-installs
returns-else-is_piece-clause-installs c = at_none _ _ _ _ _ _ _ _ (sym c.is_piece.ensures ∙ c.if-is_piece.false)
