-- `records_fit` tests each record below n. Assumes nothing.
use mathlib.Core.Path.{refl, ◌∙◌}
use Rattle.std.proofs.Common.{arith, rules, tests}
use Rattle.std.proofs.lemmas.Iterator.{YieldsList-from_range}
use Rattle.std.proofs.lemmas.Iterator.Search.{all_from_yields_List}
use Rattle.lot.proofs.Views.{below_all}
use Rattle.judging.specs.Judging.{record_fits}
use Rattle.judging.proofs.records_fit.Goals as goal

pub returns : goal.returns
returns c =
    let n = c.args.n in
    let p = record_fits c.args.account.fragments c.args.account.keys c.args.records.now in
    all_from_yields_List p _ _ _ c.all.ensures.ran (YieldsList-from_range 0 n n refl (omega arith)) (λ x b q k. search (rules, tests)) ∙ below_all p n
