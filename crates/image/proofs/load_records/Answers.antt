-- `load_records` puts the records of an image. Assumes nothing.
use native.Mathlib.Omega.{arith}
use Rattle.image.proofs.Putting.{none_put, next_put, all_put}
use Rattle.image.proofs.load_records.Goals as goal

pub loop-j-init : goal.loop-j-init
loop-j-init c = none_put c.args.lot.now c.args.records.now c.args.n

pub loop-j-preserved : goal.loop-j-preserved
loop-j-preserved c =
    let a = c.args in
    let l = c.loop-j in
    next_put a.lot.now l.lot _ a.records.now a.n l.j (omega arith) (omega arith) l.invariant c.load_record.ensures

pub returns : goal.returns
returns c =
    let a = c.args in
    let l = c.loop-j in
    all_put a.lot.now l.lot a.records.now a.n l.j (omega arith) l.invariant
