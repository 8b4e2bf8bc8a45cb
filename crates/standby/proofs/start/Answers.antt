-- `start` meets what it owes. Assumes nothing.
use mathlib.Core.Path.{sym, ◌∙◌}
use native.Mathlib.Omega.{arith}
use Rattle.lots.proofs.Parts.{memory_long}
use Rattle.standby.proofs.Calls.{not_started, is_started}
use Rattle.standby.proofs.start.Goals as goal

pub returns-then-not-memory_fits : goal.returns-then-not-memory_fits
returns-then-not-memory_fits c =
    let a = c.args in
    not_started a.memory.now a.lots (sym c.memory_fits.ensures ∙ c.if-not-memory_fits.true)

pub free_lots-requires : goal.free_lots-requires
free_lots-requires c =
    let a = c.args in
    omega (arith, memory_long a.lots a.memory.now (sym c.memory_fits.ensures ∙ c.if-not-memory_fits.false))

pub returns : goal.returns
returns c =
    let a = c.args in
    is_started a.memory.now a.lots (sym c.memory_fits.ensures ∙ c.if-not-memory_fits.false) c.free_lots.ensures
