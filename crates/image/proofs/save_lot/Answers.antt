-- `save_lot` leaves the image of the account that the lot holds. Assumes nothing.
use mathlib.Core.Path.{refl, sym, ◌∙◌}
use Rattle.std.proofs.Common.{rules}
use native.Mathlib.Omega.{arith}
use Rattle.image.proofs.Saved.{few, sections_saved, room_before, lot_saved}
use Rattle.image.proofs.save_lot.Goals as goal

pub sections-requires : goal.sections-requires
sections-requires c =
    let f = few c.args.lot.now c.args.account c.requires.1 in
    (c.requires.0, f.0, f.1, f.2, refl, c.requires.2)

pub trailer_behind-t-requires : goal.trailer_behind-t-requires
trailer_behind-t-requires c =
    let f = few c.args.lot.now c.args.account c.requires.1 in
    let w = c.sections.ensures in
    (room_before c.args.lot.now c.args.account c.requires.0 f.0 f.2 (sections_saved w.0.written w.1), w.1)

pub returns : goal.returns
returns c =
    let w = c.sections.ensures in
    let same = sym (c.bytes.ensures.same_buffer ∙ w.0.same_buffer) in
    lot_saved c.args.lot.now c.args.account c.trailer_behind-t.result c.requires.1 c.requires.0 (λ i. omega (arith, c.type_inv.lot i)) (sections_saved w.0.written w.1) c.bytes.ensures.written c.trailer_behind-t.ensures c.to_bytes.ensures
    (search (rules, same))
