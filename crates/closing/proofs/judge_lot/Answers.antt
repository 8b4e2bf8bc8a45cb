-- `judge_lot` answers 16, then 12. Assumes nothing.
use Rattle.closing.proofs.Judging.{long_enough}
use Rattle.closing.proofs.judge_lot.Goals as goal

pub returns : goal.returns
returns c = long_enough c.args.lot.bytes.now c.args.room c.if-room-lt-LEAST_LIST.false c.judge_marks.ensures
