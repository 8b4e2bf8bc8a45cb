-- `load_image` leaves the sections that the image shows. Assumes nothing.
use Prim.Native.Nat.{◌+◌, ◌*◌, ◌-◌}
use mathlib.Core.Path.{◌≡◌, ◌∙◌}
use native.Mathlib.Omega.{arith}
use lib.ListN.{take, drop}
use Rattle.judging.proofs.Passing.{part_from_law}
use Rattle.image.proofs.Putting.{image_loaded}
use Rattle.image.proofs.load_image.Goals as goal

pub returns : goal.returns
returns c =
    let a = c in
    let t = a.args.t in
    let b = a.args.image.now in
    let h = c.load_held in
    let u = c.unset_records in
    let w = c.load_records in
    let n = t.account.fragments * 8 + t.records * 8 in
    let k = c.from-a.result * 8 + c.from.result * 8 in
    let y : k + c.from-2.result * 20 - k ≡ t.account.held * 20 = omega arith in
    let z : k ≡ n = omega arith in
    image_loaded a.args.lot.now h.new.lot u.new.lot w.new.lot t b (take (c.from-a.result * 8) b) (take (k + c.from-2.result * 20 - k) (drop k b)) _ a.requires.0 (omega arith) (rw c.from-a.ensures) (rw (y, z)) (part_from_law b (c.from-a.result * 8) ∙ rw c.from-a.ensures) h.ensures u.ensures.0 u.ensures.1 (rw c.from-3.ensures at w.ensures)
