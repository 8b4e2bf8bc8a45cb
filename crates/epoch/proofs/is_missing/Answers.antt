-- `is_missing` compares the open epoch of a stream. Assumes nothing.
use native.Mathlib.Numerals.{add-one}
use Rattle.held.proofs.Fields.{epoch_within}
use Rattle.epoch.specs.Missing.{missing_in}
use Rattle.epoch.proofs.Bits.{epoch_is}
use Rattle.epoch.proofs.is_missing.Goals as goal

pub returns : goal.returns
unfolding missing_in
returns c = let l = c.args.limits in rw (c.from.ensures, c.from-2.ensures, c.open_epoch.ensures, epoch_within l.streams.now l.fragments c.args.i c.requires, epoch_is, add-one)
