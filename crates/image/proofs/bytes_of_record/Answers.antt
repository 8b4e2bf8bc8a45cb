-- `bytes_of_record` answers the bytes of a record. Assumes nothing.
use Rattle.wire.specs.Numbers.{with16, with32, bytes16, bytes32}
use Rattle.model.specs.Image.{record8}
use Rattle.image.proofs.bytes_of_record.Goals as goal

pub returns : goal.returns
unfolding with16 with32 record8 bytes16 bytes32
returns c = rw (c.put-2.ensures, c.put.ensures)
