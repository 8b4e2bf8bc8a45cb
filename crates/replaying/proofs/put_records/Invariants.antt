-- The reads are printed fragment by fragment. Assumes nothing.
use Rattle.std.proofs.Common.{◌≡◌, ◌+◌, ◌*◌, ◌≤◌, ◌++◌, length}
use Rattle.replaying.specs.Replaying.{records_text}
use Rattle.replaying.proofs.put_records.Given as goal

abbrev pub invariant-loop-fragment : goal.invariant-loop-fragment
invariant-loop-fragment l = (length l.out ≤ length l.initial.out + 8960 * l.fragment) × (l.out ≡ l.initial.out ++ records_text l.memory l.account.number l.fragment l.account.keys)
