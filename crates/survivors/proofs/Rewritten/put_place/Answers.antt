-- `put_place` copies the place in, and writes its flag byte. Assumes nothing.
use Prim.Native.Nat.{◌*◌}
use native.Mathlib.Omega.{arith}
use Rattle.survivors.proofs.Writing.{put_is}
use Rattle.survivors.proofs.Rewritten.put_place.Goals as goal

pub returns-clause-written : goal.returns-clause-written
returns-clause-written c =
    let s = c.args.self.now in
    rw c.copy_from_slice.ensures.after (put_is s.section.now c.args.place.now (s.count * 20) c.args.flag (omega arith) (omega arith))
