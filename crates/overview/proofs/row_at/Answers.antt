-- `row_at` answers the row of one lot, if there is such a lot. Assumes nothing.
use mathlib.Core.Path.{sym, ◌∙◌}
use Rattle.overview.specs.Overview.{row_at}
use Rattle.lots.proofs.Parts.{lot_inside}
use Rattle.overview.proofs.row_at.Goals as goal

pub returns-then-not-lot_fits : goal.returns-then-not-lot_fits
unfolding row_at
returns-then-not-lot_fits c = rw (sym c.lot_fits.ensures ∙ c.if-not-lot_fits.true) c.from.ensures

pub row_in-requires : goal.row_in-requires
row_in-requires c =
    let a = c.args in
    lot_inside a.lots a.lot a.memory.now (sym c.lot_fits.ensures ∙ c.if-not-lot_fits.false)

pub returns : goal.returns
unfolding row_at
returns c = rw (sym c.lot_fits.ensures ∙ c.if-not-lot_fits.false) c.row_in.ensures
