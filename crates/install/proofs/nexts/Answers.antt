-- `nexts` finds, for each place, the next one of its transaction. Assumes nothing.
use native.Mathlib.Omega.{arith}
use mathlib.Core.Path.{refl, sym, ap, ◌∙◌}
use lib.ListN.{length-set}
use Rattle.lookback.specs.Last.{Lasts, one_past}
use Rattle.install.proofs.Ordered.{nexts_none, nexts_same, nexts_more}
use Rattle.install.proofs.nexts.Goals as goal
use Rattle.install.proofs.nexts.Goals.{in-Some, in_default}

pub loop-i-init : goal.loop-i-init
loop-i-init c = (refl, nexts_none _ _)

pub loop-i-preserved : goal.loop-i-preserved
unfolding Lasts
loop-i-preserved c =
    let l = c.loop-i in
    let h = c.args.linked.now.index.held.bytes.now in
    elim c.match-linked-i.branch [
      | in-Some w ↦ rw (w.next-is, w.from.ensures) (simp length-set l.invariant.0, nexts_more h l.next l.i w.in-Some.before l.invariant.0 (omega arith) l.invariant.1 (ap one_past (sym w.in-Some.is) ∙ c.args.linked.now.lasts l.i (omega arith)))
      | in_default w ↦ rw w.next-is (l.invariant.0, nexts_same h l.next l.i l.invariant.1 (ap one_past (sym w.in_default.is) ∙ c.args.linked.now.lasts l.i (omega arith)))
    ]
