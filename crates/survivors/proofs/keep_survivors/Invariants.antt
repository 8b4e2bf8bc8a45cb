-- `keep_survivors` writes what the verdicts leave of a section. Assumes nothing.
use mathlib.Core.Path.{◌≡◌}
use Prim.Native.Nat.{◌≤◌}
use lib.ListN.{length}
use Rattle.survivors.specs.Left.{Left}
use Rattle.survivors.proofs.keep_survivors.Given as goal

abbrev pub invariant-loop-i : goal.invariant-loop-i
invariant-loop-i l =
    (l.kept.section.ghost_name ≡ l.initial.kept.section.ghost_name) × (l.kept.count ≤ l.i) × (length l.kept.section.now ≡ 5120)
    × Left l.kept.section.now l.kept.count l.verdicts l.old.bytes.now l.i
