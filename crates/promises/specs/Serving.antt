-- A standby, seen from its callers: what it answers each call at each memory, and what it leaves.
use Rattle.std.specs.Prelude.{ℕ, List}
use Rattle.promises.specs.Runs.{Call, Reply, Step}

pub record Standby : Type 0 where
  pub answers : List ℕ → Call → Reply
  pub leaves : List ℕ → Call → List ℕ

-- it keeps the contract of every call, at every memory
abbrev pub Serves : Standby → Type 0
Serves s = (m : List ℕ) (c : Call) → Step m c (s.answers m c) (s.leaves m c)
