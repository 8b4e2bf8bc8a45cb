-- `install_in` installs the pieces in the records of the lot, and the other sections stay. Assumes nothing.
use native.Mathlib.Omega.{arith}
use Rattle.closing.proofs.ClosedLot.{records_installed}
use Rattle.closing.proofs.install_in.Goals as goal

pub returns : goal.returns
returns c =
    let f = c.install_pieces in
    records_installed c.args.lot.now f.new.records c.requires.0 {n = c.args.account} (omega arith) (rw c.requires.1 at f.ensures)
