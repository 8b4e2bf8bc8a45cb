-- The reads of a fragment are printed key by key. Assumes nothing.
use Rattle.std.proofs.Common.{◌≡◌, ◌+◌, ◌*◌, ◌≤◌, ◌++◌, length}
use Rattle.replaying.specs.Replaying.{fragment_text}
use Rattle.replaying.proofs.put_fragment.Given as goal

abbrev pub invariant-loop-key : goal.invariant-loop-key
invariant-loop-key l = (length l.out ≤ length l.initial.out + 70 * l.key) × (l.out ≡ l.initial.out ++ fragment_text l.memory l.number l.fragment l.key)
