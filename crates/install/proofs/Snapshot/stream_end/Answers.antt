-- `stream_end` finds where the places of a stream end. Assumes nothing.
use mathlib.Core.Path.{ap, ◌∙◌}
use native.Mathlib.Omega.{arith}
use Rattle.install.proofs.Groups.{end_here}
use Rattle.install.proofs.Snapshot.stream_end.Goals as goal

pub returns-then-place-fragment : goal.returns-then-place-fragment
returns-then-place-fragment c =
    let l = c.loop-i in
    end_here c.requires c.args.self.now.orderly l.i (omega arith) (omega arith) (λ e. c.if-place-fragment.true (ap (λ p. p.piece.fragment) c.place.ensures ∙ e)) l.invariant
