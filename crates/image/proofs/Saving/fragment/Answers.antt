-- The present records of one fragment. Assumes nothing.
use mathlib.Core.Path.{refl, ◌∙◌}
use native.Mathlib.Omega.{arith}
use Rattle.lot.specs.View.{record_at}
use Rattle.image.proofs.Writing.{no_key_yet, next_key, few_bytes}
use Rattle.image.proofs.Saving.fragment.Goals as goal

pub loop-k-init : goal.loop-k-init
loop-k-init c =
    let a = c.args in
    (omega arith, record { same_buffer = refl; written = no_key_yet a.records.now a.self.now.image.now a.self.now.end (omega arith) a.i })

pub loop-k-preserved : goal.loop-k-preserved
loop-k-preserved c =
    let a = c.args in
    let l = c.loop-k in
    let s = c.record.ensures in (
      omega (arith, few_bytes a.i l.k (record_at a.records.now a.i l.k) s.written),
      record { same_buffer = s.same_buffer ∙ l.invariant.1.same_buffer; written = next_key a.records.now a.self.now.image.now a.self.now.end (omega arith) a.i l.k l.invariant.1.written s.written },
    )
