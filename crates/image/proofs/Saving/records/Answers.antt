-- The present records of an account. Assumes nothing.
use mathlib.Core.Path.{refl, ◌∙◌}
use native.Mathlib.Omega.{arith}
use Rattle.image.proofs.Writing.{no_fragment_yet, next_fragment}
use Rattle.image.proofs.Saving.records.Goals as goal

pub loop-i-init : goal.loop-i-init
loop-i-init c =
    let a = c.args in
    (omega arith, record { same_buffer = refl; written = no_fragment_yet a.records.now a.self.now.image.now a.self.now.end (omega arith) a.account.keys })

pub loop-i-preserved : goal.loop-i-preserved
loop-i-preserved c =
    let a = c.args in
    let l = c.loop-i in
    let s = c.fragment.ensures in (
      omega (arith, s.1),
      record { same_buffer = s.0.same_buffer ∙ l.invariant.1.same_buffer; written = next_fragment a.records.now a.self.now.image.now a.self.now.end (omega arith) a.account.keys l.i l.invariant.1.written s.0.written },
    )
