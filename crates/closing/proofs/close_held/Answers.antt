-- `close_held` leaves the lot holding the account with the epoch closed, and the list with its pieces. Assumes nothing.
use native.Mathlib.Omega.{arith}
use mathlib.Core.Path.{◌∙◌}
use borrow.Author.Rules.{rules}
use Rattle.closing.proofs.Judging.{stream_bytes, next_epoch}
use Rattle.lot.proofs.Looked.{held_most}
use Rattle.closing.proofs.ClosedLot.{closable, close_done}
use Rattle.closing.proofs.close_held.Goals as goal

pub new-held-requires : goal.new-held-requires
new-held-requires c =
    let few = held_most c.args.lot.now c.requires.looked in
    (omega arith, omega arith)

pub install_in-applied-requires : goal.install_in-applied-requires
install_in-applied-requires c =
    let l = c.args.lot.now in
    let k = c.requires in
    (k.looked.size, c.new-held.ensures.1 ∙ c.from.ensures, rw (c.new-held.ensures.0, c.snapshot-old.ensures) (closable l k.looked (next_epoch l k.looked (stream_bytes l (λ i. search rules))) c.args.list.now k.room))

pub keep_in-left-requires : goal.keep_in-left-requires
keep_in-left-requires c = c.install_in-applied.auto.lot ∙ c.requires.looked.size

pub closed_numbers-requires : goal.closed_numbers-requires
closed_numbers-requires c = let l = c.args.lot.now in next_epoch l c.requires.looked (stream_bytes l (λ i. search rules))

pub returns : goal.returns
returns c =
    let held = c.new-held.ensures in
    let applied = c.install_in-applied in
    close_done c.args.lot.now c.requires applied.new.lot c.keep_in-left.new.lot c.set_head.new.lot applied.new.list applied.result.verdicts applied.result.pieces c.keep_in-left.result
    (rw (held.0, c.snapshot-old.ensures) at applied.ensures) (rw (held.0, c.snapshot-old.ensures, held.1, c.from.ensures) at c.keep_in-left.ensures) (rw c.closed_numbers.ensures at c.set_head.ensures)
