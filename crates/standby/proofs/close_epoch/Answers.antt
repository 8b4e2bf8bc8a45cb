-- `close_epoch` meets what it owes. Assumes nothing.
use mathlib.Core.Path.{sym, ◌∙◌}
use Rattle.lots.proofs.Parts.{lot_inside}
use Rattle.standby.proofs.Closing.{close_nowhere, epoch_closed}
use Rattle.standby.proofs.close_epoch.Goals as goal

pub returns-then-not-lot_fits : goal.returns-then-not-lot_fits
returns-then-not-lot_fits c =
    let a = c.args in
    close_nowhere a.memory.now a.lots a.lot a.account a.list.now (sym c.lot_fits.ensures ∙ c.if-not-lot_fits.true)

pub close_in-requires : goal.close_in-requires
close_in-requires c =
    let a = c.args in
    lot_inside a.lots a.lot a.memory.now (sym c.lot_fits.ensures ∙ c.if-not-lot_fits.false)

pub returns : goal.returns
returns c =
    let a = c.args in
    epoch_closed a.memory.now a.lots a.lot a.account a.list.now (sym c.lot_fits.ensures ∙ c.if-not-lot_fits.false) c.close_in.ensures
