-- `end_of` finds the end of a stream's entries, backwards. Assumes nothing.
use Prim.Native.Nat.{◌+◌, ◌-◌}
use mathlib.Core.Path.{◌≡◌, sym, ◌∙◌}
use native.Mathlib.Omega.{arith}
use Rattle.places.proofs.Ends.{end_start, end_hit, end_miss}
use Rattle.places.proofs.end_of.Goals as goal

pub returns-then-held-i : goal.returns-then-held-i
returns-then-held-i c =
    let l = c.loop-i in
    let here : l.i - 1 + 1 ≡ l.i = omega arith in
    (omega arith, here ∙ end_hit _ _ l.i (l.i - 1) (omega arith) (omega arith) ∙ sym l.invariant)

pub loop-i-preserved : goal.loop-i-preserved
loop-i-preserved c =
    let l = c.loop-i in
    l.invariant ∙ end_miss _ _ l.i (l.i - 1) (omega arith) (omega arith)

pub returns : goal.returns
returns c =
    let l = c.loop-i in
    let z : l.i ≡ 0 = omega arith in
    (omega arith, rw (l.invariant, z) (end_start _ _))
