-- `save_account` meets what it owes. Assumes nothing.
use Rattle.std.proofs.lemmas.Result.{err_from_is_err_and}
use native.Mathlib.Omega.{arith}
use Rattle.standby.proofs.Saving.{save_refused, save_short, account_saved}
use Rattle.standby.proofs.save_account.Goals as goal

pub returns-then-image-lt-LONGEST : goal.returns-then-image-lt-LONGEST
returns-then-image-lt-LONGEST c =
    let a = c.args in
    save_short a.memory.now a.lots a.lot a.account a.image.now _ c.in_ok-open_lot.ensures.1 (omega arith)

pub save_lot-requires : goal.save_lot-requires
save_lot-requires c = let found = c.in_ok-open_lot.open_lot in (found.looked.size, found.looked.seen, omega arith)

pub returns-in_err-open_lot : goal.returns-in_err-open_lot
returns-in_err-open_lot c =
    let a = c.args in
    let e = err_from_is_err_and c.from_residual.result c.from_residual.ensures.1 in
    rw (e.1, e.2) (save_refused a.memory.now a.lots a.lot a.account a.image.now c.in_err-open_lot.ensures)

pub returns : goal.returns
returns c =
    let a = c.args in
    account_saved a.memory.now a.lots a.lot a.account a.image.now _ c.in_ok-open_lot.ensures.1 (omega arith) (rw c.in_ok-open_lot.ensures.0 at c.save_lot.ensures)
