-- `write_transaction` applies the writes of a transaction that stand before a place. Assumes nothing.
use borrow.Author.Rules.{rules}
use native.Mathlib.Omega.{arith}
use mathlib.Core.Path.{◌∙◌}
use Rattle.install.proofs.Ordered.{walk_start, walk_on, walk_turn}
use Rattle.install.proofs.Snapshot.write_transaction.Goals as goal

pub loop-at-init : goal.loop-at-init
loop-at-init c = let f = c.first_of-at.ensures in (f.low, omega arith, f.own, walk_start _ _ _ _ f)

pub unwrap-requires : goal.unwrap-requires
unwrap-requires c =
    let l = c.loop-at in
    let s = c.args.self.now in
    let t = walk_on _ c.args.records.now c.args.i s.next _ l.at s.nexts (omega arith) (omega arith) l.invariant.2 in
    rw t.1 (search rules)

pub loop-at-smaller : goal.loop-at-smaller
loop-at-smaller c =
    let l = c.loop-at in
    let s = c.args.self.now in
    let t = walk_turn _ c.args.records.now c.args.i s.next _ l.at c.unwrap.result s.nexts (omega arith) (omega arith) l.invariant.2 c.unwrap.ensures in
    omega (arith, t.later, t.low)

pub loop-at-preserved : goal.loop-at-preserved
loop-at-preserved c =
    let l = c.loop-at in
    let s = c.args.self.now in
    let t = walk_turn _ c.args.records.now c.args.i s.next _ l.at c.unwrap.result s.nexts (omega arith) (omega arith) l.invariant.2 c.unwrap.ensures in
    rw c.from-at.ensures (t.low, c.write_place.auto.records ∙ l.invariant.1, t.own, t.walked _ _ l.invariant.3 c.write_place.ensures)
