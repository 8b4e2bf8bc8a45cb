-- `find` answers what the named lot and account are. Assumes nothing.
use mathlib.Core.Path.{sym, ◌∙◌}
use Rattle.std.proofs.lemmas.Result.{MatchResult-weaker}
use Rattle.lots.proofs.Parts.{lot_inside, lot_long}
use Rattle.lots.proofs.Looks.{not_there, finds}
use Rattle.lots.proofs.find.Goals as goal

pub returns-then-not-lot_fits : goal.returns-then-not-lot_fits
returns-then-not-lot_fits c =
    let a = c.args in
    sym (not_there a.memory.now a.lots a.lot a.account (sym c.lot_fits.ensures ∙ c.if-not-lot_fits.true))

pub lot_in-requires : goal.lot_in-requires
lot_in-requires c =
    let a = c.args in
    lot_inside a.lots a.lot a.memory.now (sym c.lot_fits.ensures ∙ c.if-not-lot_fits.false)

pub find-requires : goal.find-requires
find-requires c =
    let a = c.args in
    rw c.lot_in.ensures (lot_long a.memory.now a.lot (lot_inside a.lots a.lot a.memory.now (sym c.lot_fits.ensures ∙ c.if-not-lot_fits.false)))

pub returns : goal.returns
returns c =
    let a = c.args in
    let f = rw (← c.lot_in.ensures) at (finds a.memory.now a.lots a.lot a.account (sym c.lot_fits.ensures ∙ c.if-not-lot_fits.false)) in
    MatchResult-weaker c.find.result c.find.ensures (λ x p. (p.0 ∙ c.lot_in.ensures, sym f ∙ p.1)) (λ y p. sym f ∙ p)
