-- `missing_marks` answers the byte of missing streams and its ones, as many as the streams without the mark. Assumes nothing.
use borrow.Author.Tests.{eq-eqb, ne_eqb}
use Rattle.epoch.proofs.Bits.{ones_bits}
use Rattle.epoch.proofs.missing_marks.Goals as goal

pub returns-then-how_many-eq0 : goal.returns-then-how_many-eq0
returns-then-how_many-eq0 c = rw (eq-eqb _ 0 (rw (c.missing_byte-streams.ensures, ones_bits) at c.if-how_many-eq0.true))

pub returns : goal.returns
returns c =
    let e = c.missing_byte-streams.ensures in
    rw (e, ones_bits, ne_eqb _ 0 (rw (e, ones_bits) at c.if-how_many-eq0.false))
