-- `new` answers, for each place, the last one before it of its piece. Assumes nothing.
use native.Mathlib.Omega.{arith}
use borrow.Author.Rules.{rules}
use lib.ListN.{length-set}
use Rattle.lookback.proofs.Chains.{lasts_more}
use Rattle.lookback.proofs.Linked.new.Goals as goal

pub loop-i-preserved : goal.loop-i-preserved
loop-i-preserved c =
    let l = c.loop-i in
    let v = l.invariant in
    record {
      size = simp length-set v.size;
      found = lasts_more _ _ l.i _ v.size (omega (arith, c.args.held.few)) (rw (v.held, v.chained) at c.add.ensures.2) v.found;
      held = search rules;
      chained = search rules;
    }
