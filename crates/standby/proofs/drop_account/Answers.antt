-- `drop_account` meets what it owes. Assumes nothing.
use Rattle.std.proofs.Common.{rules, ◌≡◌, ◌||◌}
use mathlib.Core.Path.{refl, sym, ◌∙◌}
use Rattle.lots.specs.Looks.{looks_damaged, looks_of}
use Rattle.lots.proofs.Parts.{lot_inside}
use Rattle.standby.proofs.Calls.{drop_nowhere, drop_other, drop_done}
use Rattle.standby.proofs.drop_account.Goals as goal
use Rattle.standby.proofs.drop_account.Goals.{then-eq, else-eq}

pub returns-then-not-lot_fits : goal.returns-then-not-lot_fits
returns-then-not-lot_fits c =
    let a = c.args in
    drop_nowhere a.memory.now a.lots a.lot a.account (sym c.lot_fits.ensures ∙ c.if-not-lot_fits.true)

pub look_in-look-requires : goal.look_in-look-requires
look_in-look-requires c =
    let a = c.args in
    lot_inside a.lots a.lot a.memory.now (sym c.lot_fits.ensures ∙ c.if-not-lot_fits.false)

pub returns-then-not-looks_of : goal.returns-then-not-looks_of
returns-then-not-looks_of c =
    let a = c.args in
    let l = c.look_in-look.result in
    let broken : c.eq.result ≡ looks_damaged l = search rules in
    let either : c.if-eq.value ≡ (c.eq.result || looks_of a.account l) = elim c.if-eq.branch [ then-eq w ↦ rw w.if-eq.true (w.value-is ∙ w.if-eq.true) | else-eq w ↦ rw w.if-eq.false (w.value-is ∙ w.looks_of.ensures) ] in
    drop_other a.memory.now a.lots a.lot a.account l _ _ (sym c.lot_fits.ensures ∙ c.if-not-lot_fits.false) c.look_in-look.ensures broken refl (sym either ∙ c.if-not-looks_of.true)

pub free_in-requires : goal.free_in-requires
free_in-requires c =
    let a = c.args in
    lot_inside a.lots a.lot a.memory.now (sym c.lot_fits.ensures ∙ c.if-not-lot_fits.false)

pub returns : goal.returns
returns c =
    let a = c.args in
    let l = c.look_in-look.result in
    let broken : c.eq.result ≡ looks_damaged l = search rules in
    let either : c.if-eq.value ≡ (c.eq.result || looks_of a.account l) = elim c.if-eq.branch [ then-eq w ↦ rw w.if-eq.true (w.value-is ∙ w.if-eq.true) | else-eq w ↦ rw w.if-eq.false (w.value-is ∙ w.looks_of.ensures) ] in
    drop_done a.memory.now a.lots a.lot a.account l _ _ (sym c.lot_fits.ensures ∙ c.if-not-lot_fits.false) c.look_in-look.ensures broken refl (sym either ∙ c.if-not-looks_of.false) c.free_in.ensures
