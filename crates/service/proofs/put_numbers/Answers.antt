-- `put_numbers` writes the numbers at the front of the bytes. The invariant: the first i stand there. Assumes nothing.
use Prim.Native.Nat.{◌*◌}
use mathlib.Core.Path.{◌≡◌, refl, ◌∙◌}
use lib.ListN.{length}
use lib.Seq.{take-length}
use native.Mathlib.Omega.{arith}
use borrow.Author.Rules.{rules}
use Rattle.wire.specs.Numbers.{bytes32}
use Rattle.wire.specs.Laws.{length_put32}
use Rattle.service.proofs.Bytes.{none_yet, number_more}
use Rattle.service.proofs.put_numbers.Goals as goal

pub loop-i-init : goal.loop-i-init
loop-i-init c = (refl, none_yet bytes32 c.args.bytes.now)

pub returns : goal.returns
returns c =
    let all : c.loop-i.i ≡ length c.args.numbers.now = omega arith in
    let whole = take-length c.args.numbers.now in
    rw whole at (rw all at c.loop-i.invariant.1)

pub loop-i-preserved : goal.loop-i-preserved
loop-i-preserved c =
    let l = c.loop-i in
    let a = c.args in
    let e = c.put.ensures in
    (rw e (length_put32 l.bytes (l.i * 4) _ ∙ l.invariant.0), rw e (number_more a.numbers.now l.i (search rules) (omega (arith, l.invariant.0)) l.invariant.1))
