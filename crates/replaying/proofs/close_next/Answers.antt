-- An epoch is closed where it can, and then printed with its pieces. Assumes nothing.
use Rattle.replaying.specs.Replaying.{text_told}
use mathlib.Core.Path.{refl, ap, sym}
use native.Mathlib.Omega.{arith}
use lib.ListN.{length}
use lib.Seq.{length-take-le}
use Rattle.replaying.proofs.Closes.{counted_law, not_closed, count_fits, epoch_printed}
use Rattle.replaying.proofs.close_next.Goals as goal

pub returns-in_err-count-clause-refused : goal.returns-in_err-count-clause-refused
returns-in_err-count-clause-refused c = rw c.from_residual.ensures refl

pub returns-in_err-count-clause-told : goal.returns-in_err-count-clause-told
returns-in_err-count-clause-told c =
    not_closed _ c.close_epoch.ensures refl c.in_err-count.ensures.value (ap (λ o. text_told o c.args.out.now) c.from_residual.ensures)

pub slice_bounds-put_pieces-end : goal.slice_bounds-put_pieces-end
slice_bounds-put_pieces-end c =
    let low = count_fits _ c.close_epoch.ensures refl (counted_law _ c.in_ok-count.ensures.value) c.close_epoch.auto.list in
    sym (length-take-le c.in_ok-count.count c.as_chunks.result.0.now (omega (arith, c.as_chunks.ensures.front_len)))

pub put_pieces-requires : goal.put_pieces-requires
put_pieces-requires c =
    let low = count_fits _ c.close_epoch.ensures refl (counted_law _ c.in_ok-count.ensures.value) c.close_epoch.auto.list in
    let z = length-take-le c.in_ok-count.count c.as_chunks.result.0.now (omega (arith, c.as_chunks.ensures.front_len)) in
    (omega arith, omega (arith, c.epoch.ensures.upper_bound, ap length c.clear.ensures))

pub returns-clause-told : goal.returns-clause-told
returns-clause-told c =
    let low = count_fits _ c.close_epoch.ensures refl (counted_law _ c.in_ok-count.ensures.value) c.close_epoch.auto.list in
    epoch_printed _ c.close_epoch.ensures refl (counted_law _ c.in_ok-count.ensures.value) c.row_at-row.ensures
    (rw (c.clear.ensures, c.from.ensures, c.from-2.ensures) at c.epoch.ensures.wrote) (omega arith) c.as_chunks.ensures.front c.put_pieces.ensures
