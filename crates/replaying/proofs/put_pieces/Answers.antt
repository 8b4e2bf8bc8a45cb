-- The pairs are printed one after the other. Assumes nothing.
use mathlib.Core.List.{[]}
use native.Mathlib.Omega.{arith}
use Rattle.replaying.specs.Replaying.{pair_text}
use Rattle.replaying.proofs.Printing.{each_start, each_more}
use Rattle.replaying.proofs.put_pieces.Goals as goal

pub loop-fragment-init : goal.loop-fragment-init
loop-fragment-init c = (omega arith, each_start pair_text _ c.args.pieces.now)

pub loop-fragment-preserved : goal.loop-fragment-preserved
loop-fragment-preserved c =
    (omega arith, each_more pair_text _ _ _ [] (omega arith) c.loop-fragment.invariant.1 (rw (c.from.ensures, c.from-in-loop-fragment.ensures) at c.piece.ensures.wrote))
