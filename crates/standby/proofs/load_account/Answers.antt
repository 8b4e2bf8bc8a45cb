-- `load_account` meets what it owes. Assumes nothing.
use mathlib.Core.Path.{refl, sym}
use Rattle.standby.proofs.Loading.{loading}
use Rattle.standby.proofs.load_account.Goals as goal

pub load_in-requires : goal.load_in-requires
load_in-requires c =
    let s = c.args in
    let o = loading s.memory.now s.lots s.«data».now (sym c.in_ok-lot.ensures.0) refl in
    (o.place.inside, c.in_ok-lot.ensures.1)
