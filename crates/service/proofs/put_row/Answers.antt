-- `put_row` writes a row. Assumes nothing.
use Prim.Native.Nat.{◌*◌}
use Rattle.service.proofs.Bytes.{row_written}
use Rattle.service.proofs.put_row.Goals as goal

pub returns : goal.returns
returns c =
    let third = c in
    let second = third in
    let first = second in
    let s = first in
    rw (c.put-4.ensures, third.put-3.ensures, second.put-2.ensures, first.put.ensures)
    (row_written s.args.bytes.now (s.args.i * 16) s.args.row s.requires)
