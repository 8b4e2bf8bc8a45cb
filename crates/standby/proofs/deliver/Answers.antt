-- `deliver` meets what it owes. Assumes nothing.
use mathlib.Core.Path.{sym, ◌∙◌}
use Rattle.lots.proofs.Parts.{lot_inside}
use Rattle.standby.proofs.Delivering.{deliver_nowhere, delivered}
use Rattle.standby.proofs.deliver.Goals as goal

pub returns-then-not-lot_fits : goal.returns-then-not-lot_fits
returns-then-not-lot_fits c =
    let a = c.args in
    deliver_nowhere a.memory.now a.lots a.lot a.account a.entry.now (sym c.lot_fits.ensures ∙ c.if-not-lot_fits.true)

pub deliver_in-requires : goal.deliver_in-requires
deliver_in-requires c =
    let a = c.args in
    lot_inside a.lots a.lot a.memory.now (sym c.lot_fits.ensures ∙ c.if-not-lot_fits.false)

pub returns : goal.returns
returns c =
    let f = c in
    let a = f.args in
    delivered a.memory.now a.lots a.lot a.account a.entry.now (sym f.lot_fits.ensures ∙ c.if-not-lot_fits.false) c.deliver_in.ensures
