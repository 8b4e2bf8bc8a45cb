-- `to_bytes` answers the bytes of a trailer: all of the zeros are written over, but for three. Assumes nothing.
use Rattle.wire.specs.Numbers.{with16, with32, bytes16, bytes32}
use Rattle.trailer.specs.Trailer.{count_bytes, trailer_bytes}
use Rattle.trailer.proofs.Trailer.to_bytes.Goals as goal

pub returns : goal.returns
unfolding count_bytes trailer_bytes with16 with32 bytes16 bytes32
returns c = rw (c.copy_from_slice.ensures.after, c.put-6.ensures, c.put-5.ensures, c.put-4.ensures, c.put-3.ensures, c.put-2.ensures, c.put.ensures)
