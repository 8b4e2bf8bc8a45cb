-- A record that is present is written. Assumes nothing.
use mathlib.Core.Path.{refl}
use native.Mathlib.Omega.{arith}
use Rattle.lot.specs.View.{record_at}
use Rattle.image.proofs.Writing.{shows_present, shows_other, write_none}
use Rattle.image.proofs.Saving.record.Goals as goal

pub returns-in-Some : goal.returns-in-Some
returns-in-Some c = rw (shows_present c.args.i c.args.k (record_at c.args.records.now c.args.i c.args.k) _ (rw (c.from.ensures, c.from-2.ensures) at c.in-Some.ensures), ← c.bytes_of_record.ensures) c.bytes.ensures

pub returns-in_default : goal.returns-in_default
returns-in_default c =
    let a = c.args in
    rw (shows_other a.i a.k (record_at a.records.now a.i a.k) _ (rw (c.from.ensures, c.from-2.ensures) at c.read_record.ensures) c.in_default.not-Some)
    (record { same_buffer = refl; written = write_none a.self.now.image.now a.self.now.end (omega arith) })
