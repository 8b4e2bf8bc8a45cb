-- `keep_survivors` writes what the verdicts leave of a section. Assumes nothing.
use native.Mathlib.Omega.{arith}
use mathlib.Core.Path.{refl, ◌∙◌}
use Rattle.survivors.proofs.Writing.{left_none, left_more}
use Rattle.survivors.proofs.keep_survivors.Goals as goal

pub loop-i-init : goal.loop-i-init
loop-i-init c = (refl, omega arith, omega arith, left_none _ _ _)

pub loop-i-preserved : goal.loop-i-preserved
loop-i-preserved c =
    let l = c.loop-i in
    let k = c.keep_place.ensures in
    (k.same ∙ l.invariant.0, omega arith, k.size, left_more _ _ c.args.verdicts.now c.args.old.bytes.now _ _ l.i l.invariant.3 k.kept)
