-- `open_account` meets what it owes. Assumes nothing.
use Rattle.std.proofs.Common.{refl}
use Rattle.standby.proofs.Calls.{opening}
use mathlib.Core.Path.{refl}
use Rattle.standby.proofs.open_account.Goals as goal

pub overflow_cast-account : goal.overflow_cast-account
overflow_cast-account c =
    let a = c.args in
    record { fits = (opening a.memory.now a.lots a.account a.fragments a.keys c.in_ok-i.ensures refl).small.0 }

pub overflow_cast-fragments : goal.overflow_cast-fragments
overflow_cast-fragments c =
    let a = c.args in
    record { fits = (opening a.memory.now a.lots a.account a.fragments a.keys c.in_ok-i.ensures refl).small.1 }

pub overflow_cast-keys : goal.overflow_cast-keys
overflow_cast-keys c =
    let a = c.args in
    record { fits = (opening a.memory.now a.lots a.account a.fragments a.keys c.in_ok-i.ensures refl).small.2 }

pub open_in-requires : goal.open_in-requires
open_in-requires c =
    let a = c.args in
    let o = opening a.memory.now a.lots a.account a.fragments a.keys c.in_ok-i.ensures refl in (o.inside, o.fits)
