-- `keep_place` writes what a verdict leaves of a place. Assumes nothing.
use native.Mathlib.Omega.{arith}
use mathlib.Core.Path.{sym, ◌∙◌}
use Rattle.model.specs.Decoding.{item_of}
use Rattle.survivors.proofs.Writing.{kept_none, kept_one}
use Rattle.survivors.proofs.Rewritten.keep_place.Goals as goal

pub returns-in_default-clause-kept : goal.returns-in_default-clause-kept
unfolding item_of
returns-in_default-clause-kept c = kept_none _ _ _ _ (sym c.flag_left.ensures ∙ c.in_default.is)

pub returns-in-Some-clause-kept : goal.returns-in-Some-clause-kept
unfolding item_of
returns-in-Some-clause-kept c =
    let s = c.args.self.now in
    let k = c.put_place.ensures in
    rw k.counted (kept_one s.section.now c.args.place.now s.count c.args.verdict c.put_place.new.self.section.now c.in-Some.flag (omega arith) (omega arith) (omega arith) (sym c.flag_left.ensures ∙ c.in-Some.is) k.written)
