-- `room_in` answers how many numbers are lent on. Assumes nothing.
use borrow.Author.Tests.{lt-ltb, le-ltb}
use Rattle.service.specs.Writing.{room_in}
use Rattle.service.proofs.room_in.Goals as goal

pub returns-then-bytes : goal.returns-then-bytes
unfolding room_in
returns-then-bytes c = rw (lt-ltb _ _ c.if-bytes.true)

pub returns-else-bytes : goal.returns-else-bytes
unfolding room_in
returns-else-bytes c = rw (le-ltb _ _ c.if-bytes.false)
