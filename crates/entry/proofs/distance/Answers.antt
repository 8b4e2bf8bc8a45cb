-- `distance` answers the signed distance. Assumes nothing.
use Rattle.std.proofs.Common.{◌≡◌, ◌∙◌, ◌+◌, ◌-◌, ◌%◌, arith, to_z-of_z, to_z, w16, ap}
use Rattle.model.specs.Distance.{difference, distance}
use Rattle.entry.proofs.Distances.{read_signed}
use Rattle.entry.proofs.distance.Goals as goal

pub returns : goal.returns
unfolding distance
returns c =
    let r = c.args.received in
    let e = c.args.expected in
    let same : (r + (65536 - e)) % 65536 ≡ difference r e = omega arith in
    to_z-of_z {w = w16} (record { sfits = c.cast_signed.type_inv }) ∙ c.cast_signed.ensures ∙ ap (to_z w16) same ∙ read_signed (difference r e)
