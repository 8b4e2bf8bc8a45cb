-- `judge_lot` answers what the account that the lot holds judges of the bytes. Assumes nothing.
use Rattle.taking.proofs.Judging.{of_entry}
use Rattle.taking.proofs.judge_lot.Goals as goal

pub returns : goal.returns
returns c = of_entry c.args.lot.bytes.now c.args.bytes.now c.if-bytes-ne-LENGTH.false (rw c.read.ensures at c.judge_entry.ensures)
