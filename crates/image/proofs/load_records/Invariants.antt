-- `load_records` puts the records of an image. The invariant: those from j on are put. Assumes nothing.
use Prim.Native.Nat.{◌*◌, ◌-◌}
use lib.ListN.{drop}
use Rattle.model.specs.Decoding.{present_of, parse}
use Rattle.lot.specs.Layout.{records_of}
use Rattle.writes.specs.Sections.{WithRecords}
use Rattle.image.specs.Loading.{with_all}
use Rattle.image.proofs.load_records.Given as goal

abbrev pub invariant-loop-j : goal.invariant-loop-j
invariant-loop-j l = WithRecords l.initial.lot l.lot (with_all (records_of l.initial.lot) (parse (l.n - l.j) 8 present_of (drop (l.j * 8) l.records)))
