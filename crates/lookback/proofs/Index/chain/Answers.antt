-- `chain` chains the next place. Assumes nothing.
use native.Mathlib.Omega.{arith}
use borrow.Author.Rules.{rules}
use Rattle.lookback.proofs.Chains.{indexed_more}
use Rattle.lookback.proofs.Index.chain.Goals as goal

pub invariant_of-self : goal.invariant_of-self
invariant_of-self c =
    let s = c.args.self.now in
    record {
      within = omega arith;
      indexed =
          indexed_more s.held.bytes.now s.head s.next s.chained c.args.b (search rules) (search rules)
          c.requires.1 c.requires.2 s.indexed (omega (arith, s.held.few));
    }
