-- `verdicts` answers the verdict on each place. Assumes nothing.
use Prim.Native.Nat.{◌-◌}
use mathlib.Core.Path.{◌≡◌, sym, ap, ◌∙◌}
use native.Mathlib.Omega.{arith}
use lib.ListN.{get_or}
use Rattle.std.specs.Prelude.{Some, None}
use Rattle.lookback.specs.Last.{one_past, Lasts}
use Rattle.verdicts.proofs.Backwards.{no_place, found_none, found_turn, found_all}
use Rattle.verdicts.proofs.verdicts.Goals as goal

pub loop-i-init : goal.loop-i-init
loop-i-init c = found_none _ _ _ c.args.linked.now.index.held.few

pub loop-i-preserved-in-Some : goal.loop-i-preserved-in-Some
unfolding Lasts
loop-i-preserved-in-Some c =
    let l = c.loop-i in
    let s = c.args.linked.now in
    let before : get_or s.last (l.i - 1) None ≡ Some c.from.result = c.in-Some.is ∙ ap Some (sym c.from.ensures) in
    found_turn _ _ _ c.requires _ l.i (Some c.from.result) c.answer_from-answer.result s.index.held.few (omega arith) l.auto.i l.invariant
    (sym (ap one_past before) ∙ s.lasts (l.i - 1) (omega arith)) c.answer_from-answer.ensures

pub loop-i-preserved : goal.loop-i-preserved
unfolding Lasts
loop-i-preserved c =
    let l = c.loop-i in
    let s = c.args.linked.now in
    found_turn _ _ _ c.requires _ l.i None c.answer_from-answer.result s.index.held.few (omega arith) l.auto.i l.invariant
    (sym (no_place _ c.in_default.not-Some) ∙ s.lasts (l.i - 1) (omega arith)) c.answer_from-answer.ensures

pub returns : goal.returns
returns c =
    let l = c.loop-i in
    let z : l.i ≡ 0 = omega arith in
    found_all _ _ _ c.requires _ (rw z at l.invariant)
