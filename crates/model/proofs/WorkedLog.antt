-- The worked case follows streams that keep the five rules, so the premises of demand 3 can be met. Assumes nothing.
use Prim.Native.Nat.{ℕ}
use mathlib.Core.Path.{◌≡◌, refl, sym}
use mathlib.Core.Bool.{true}
use mathlib.Core.List.{List, [], append-nil}
use lib.Dec.{eqb}
use Rattle.std.specs.Prelude.{if◌then◌else◌}
use Rattle.model.specs.Lists.{every}
use Rattle.model.specs.Taking.{hold}
use Rattle.model.specs.Runs.{log}
use Rattle.model.specs.Rules.{in_epochs, LogRules}
use Rattle.model.specs.Installed.{Follows}
use Rattle.model.specs.declared.Entry.{Entry}
use Rattle.model.proofs.Cases.{worked, worked_allowed}
use Rattle.model.proofs.RuleTest.{implies, all_at, some_at, for_all, exists, keeps_rules, rules_kept}

-- the primary wrote what the case takes
abbrev wrote : ℕ → List Entry
wrote = log worked

abbrev coordinator_of : ℕ → ℕ
coordinator_of t = if eqb t 1 then 0 else 1

passes : keeps_rules 2 wrote coordinator_of ≡ true
unfolding keeps_rules implies all_at some_at for_all exists every in_epochs hold log
passes = refl

pub worked_log : LogRules 2 wrote
worked_log = rules_kept 2 wrote coordinator_of passes

pub worked_follows : Follows 7 2 4 worked wrote
worked_follows = record { allowed = worked_allowed; first_part = λ i l. record { rest = []; splits = sym (append-nil (wrote i)) }; rules = worked_log }
