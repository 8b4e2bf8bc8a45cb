-- `first_of` walks back to the first place of a transaction. Assumes nothing.
use native.Mathlib.Omega.{arith}
use mathlib.Core.Path.{sym, ap, ◌∙◌}
use Rattle.lookback.specs.Last.{Lasts, one_past}
use Rattle.install.proofs.Ordered.{own_self, first_is, first_back}
use Rattle.install.proofs.Snapshot.first_of.Goals as goal

pub loop-first-init : goal.loop-first-init
loop-first-init c = (omega arith, own_self _ c.args.i)

pub loop-first-smaller : goal.loop-first-smaller
unfolding Lasts
loop-first-smaller c =
    let l = c.loop-first in
    let s = c.args.self.now.linked.now in
    let b = first_back _ c.args.i l.first c.in-Some.before l.invariant.1 (ap one_past (sym c.in-Some.is) ∙ s.lasts l.first (omega arith)) in
    omega arith

pub loop-first-preserved : goal.loop-first-preserved
unfolding Lasts
loop-first-preserved c =
    let l = c.loop-first in
    let s = c.args.self.now.linked.now in
    let b = first_back _ c.args.i l.first c.in-Some.before l.invariant.1 (ap one_past (sym c.in-Some.is) ∙ s.lasts l.first (omega arith)) in
    rw c.from-first.ensures (omega arith, b.1)

pub returns : goal.returns
unfolding Lasts
returns c =
    let l = c.loop-first in
    let s = c.args.self.now.linked.now in
    first_is _ c.args.i l.first l.invariant.0 l.invariant.1 (ap one_past (sym c.in_default.is) ∙ s.lasts l.first (omega arith))
