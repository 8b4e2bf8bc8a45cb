-- `set_streams` overwrites the first bytes of the streams, and the other sections stay. Assumes nothing.
use Rattle.writes.proofs.Overwriting.{streams_overwritten}
use lib.Seq.{take-length}
use Rattle.writes.proofs.set_streams.Goals as goal

pub returns : goal.returns
returns c =
    let a = c in
    let q = c.copy in
    streams_overwritten a.args.lot.now a.args.from.now q.new.to a.requires.0 a.requires.1 (rw take-length q.ensures)
