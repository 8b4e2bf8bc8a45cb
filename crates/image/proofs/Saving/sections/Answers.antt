-- The sections of a lot are written one after the other. Assumes nothing.
use Prim.Native.Nat.{◌*◌}
use mathlib.Core.Path.{◌∙◌}
use native.Mathlib.Omega.{arith}
use lib.ListN.{length-take}
use Rattle.lot.specs.Layout.{streams_of, places_of}
use Rattle.lot.proofs.Lengths.{records_part}
use Rattle.image.proofs.Saved.{sections_written}
use Rattle.image.proofs.Saving.sections.Goals as goal

pub returns : goal.returns
returns c =
    let u = rw c.from.ensures at c.bytes.ensures in
    let v = rw (records_part c.args.lot.now c.requires.0) at c.records.ensures.0 in
    let w = rw c.from-2.ensures at c.bytes-2.ensures in
    let streams = length-take (c.args.account.fragments * 8) (streams_of c.args.lot.now) in
    let places = length-take (c.args.account.held * 20) (places_of c.args.lot.now) in (
      record { same_buffer = w.same_buffer ∙ v.same_buffer ∙ u.same_buffer; written = sections_written (omega arith) u.written v.written w.written },
      omega (arith, u.written.behind, c.records.ensures.1, w.written.behind, streams, places, c.requires.1, c.requires.3),
    )
