-- `last_from` walks along the chain of a bucket. Assumes nothing.
use mathlib.Core.Path.{◌≡◌, sym, ap, ◌∙◌}
use Rattle.std.specs.Prelude.{Some}
use Rattle.lookback.specs.Last.{one_past}
use Rattle.lookback.proofs.Chains.{walk_on, walk_hit}
use Rattle.lookback.proofs.Index.last_from.Goals as goal

pub returns-then-is_of : goal.returns-then-is_of
returns-then-is_of c =
    let here : c.loop.at ≡ Some c.in_ok-i.i = c.in_ok-i.was in
    ap one_past here ∙ walk_hit _ _ _ _ c.in_ok-i.i (rw here at c.loop.invariant) (sym (rw c.from.ensures at c.is_of.ensures) ∙ c.if-is_of.true)

pub loop-preserved : goal.loop-preserved
loop-preserved c =
    let here : c.loop.at ≡ Some c.in_ok-i.i = c.in_ok-i.was in
    rw c.from-in-loop.ensures
    (walk_on _ _ _ _ _ _ c.args.self.now.indexed c.in_ok-i.i (rw here at c.loop.invariant) (sym (rw c.from.ensures at c.is_of.ensures) ∙ c.if-is_of.false))
