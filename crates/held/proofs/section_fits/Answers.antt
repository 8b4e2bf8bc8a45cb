-- `section_fits` is the test of a held section. Assumes nothing.
use mathlib.Core.Path.{refl, sym, ◌∙◌}
use native.Mathlib.Omega.{arith}
use Rattle.model.specs.Lists.{every}
use Rattle.model.specs.Decoding.{parse, held_fits}
use Rattle.model.specs.Section.{section_fits}
use Rattle.model.proofs.Tests.{and}
use Rattle.held.proofs.Order.{section_more}
use Rattle.held.proofs.Section.{unfit_place}
use Rattle.held.proofs.section_fits.Goals as goal

pub loop-i-init : goal.loop-i-init
unfolding section_fits every parse held_fits
loop-i-init c = record { fits = refl; held = c.new-index.ensures.0; chained = c.new-index.ensures.1 }

pub returns-then-not-place_fits : goal.returns-then-not-place_fits
returns-then-not-place_fits c =
    let l = c.loop-i in
    sym (unfit_place _ _ _ _ _ l.i (omega arith) (sym c.place_fits.ensures ∙ c.if-not-place_fits.true))

pub loop-i-preserved : goal.loop-i-preserved
loop-i-preserved c =
    let v = c.loop-i.invariant in
    record {
      fits = section_more _ _ _ _ c.loop-i.i ∙ and v.fits (sym c.place_fits.ensures ∙ c.if-not-place_fits.false);
      held = c.add.ensures.0 ∙ v.held;
      chained = rw c.add.ensures.1 (rw v.chained);
    }
