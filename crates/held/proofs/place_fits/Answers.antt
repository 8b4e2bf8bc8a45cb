-- `place_fits` is the test of one place. Assumes nothing.
use native.Mathlib.Omega.{arith}
use Rattle.model.specs.Section.{item_at}
use Rattle.lookback.specs.Last.{is_of}
use Rattle.lookback.proofs.Chains.{last_le}
use Rattle.held.proofs.place_fits.Goals as goal

pub stage_at-stage-requires : goal.stage_at-stage-requires
stage_at-stage-requires c =
    let h = c.args.held.bytes.now in
    let e = item_at h c.args.i in
    omega (arith, last_le (is_of h e.stream e.entry.transaction) c.args.i, c.requires.1)
