-- `missing_byte` makes the byte of missing streams. Assumes nothing.
use mathlib.Core.Path.{refl, sym, ◌∙◌}
use native.Mathlib.Omega.{arith}
use Rattle.model.specs.Lists.{bits_of}
use Rattle.epoch.specs.Missing.{missing_in}
use Rattle.epoch.proofs.Bits.{bits_hit, bits_miss}
use Rattle.epoch.proofs.missing_byte.Goals as goal
use Rattle.epoch.proofs.missing_byte.Goals.{then-is_missing, else-is_missing}

pub loop-i-init : goal.loop-i-init
unfolding bits_of
loop-i-init c = refl

pub loop-i-preserved : goal.loop-i-preserved
loop-i-preserved c =
    let l = c.loop-i in
    let a = c.args in
    let p = missing_in a.limits.streams.now a.limits.closed in
    elim c.if-is_missing.branch [
      | then-is_missing w ↦ w.byte-is ∙ bits_hit p l.i l.byte l.invariant (sym c.is_missing.ensures ∙ w.if-is_missing.true) (omega arith)
      | else-is_missing w ↦ w.byte-is ∙ bits_miss p l.i l.byte l.invariant (sym c.is_missing.ensures ∙ w.if-is_missing.false)
    ]
