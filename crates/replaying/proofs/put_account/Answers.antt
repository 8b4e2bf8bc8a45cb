-- The records and the held count of the account that is found. Assumes nothing.
use native.Mathlib.Omega.{arith}
use Rattle.replaying.proofs.Records.{found_limits, account_printed}
use Rattle.replaying.proofs.put_account.Goals as goal

pub put_records-requires : goal.put_records-requires
put_records-requires c = let f = found_limits _ _ c.in-Ok.ensures.1 in (f.0, f.1, rw c.clear.ensures (omega arith))

pub returns-in-Ok : goal.returns-in-Ok
returns-in-Ok c =
    account_printed _ _ c.in-Ok.ensures.1
    (rw c.clear.ensures at c.put_records.ensures.wrote)
    (rw c.from.ensures at c.held.ensures.wrote)
