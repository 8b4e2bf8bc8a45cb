-- What the second half of demand 3 supposes of the primary, and what it says of records.
use Rattle.std.specs.Prelude.{ℕ, ◌<◌, ◌≤◌, ◌≡◌, Bool, true, List}
use Rattle.model.specs.Entry.{PUT, DELETE}
use Rattle.model.specs.Account.{Held, key, Record, absent}
use Rattle.model.specs.Closing.{written}
use Rattle.model.specs.Rules.{At, FirstPart, LogRules}
use Rattle.model.specs.declared.Entry.{Entry}
use Rattle.promises.specs.Runs.{Turn}
use Rattle.promises.specs.Followed.{accepted_in}

-- the primary of an account of f fragments wrote these streams: the entries accepted in a run are a first part of each, and there the primary kept the five rules
pub record FollowsPrimary (number lot f : ℕ) (ts : List Turn) (wrote : ℕ → List Entry) : Type 0 where
  pub first_part : (i : ℕ) → i < f → FirstPart (accepted_in number lot ts i) (wrote i)
  pub rules : LogRules f wrote

-- ---- the latest write or deletion, in stream order, by an installed transaction

-- h is a put or a delete of this key by an installed transaction
pub record WritesInstalled (is_installed : ℕ → Bool) (k : ℕ) (h : Held) : Type 0 where
  pub from_put : PUT ≤ h.kind
  pub to_delete : h.kind ≤ DELETE
  pub of_key : key h ≡ k
  pub installed : is_installed h.transaction ≡ true

-- the record that it leaves: a put its value, a delete none; absent where there is no such entry
pub data LatestWrite (is_installed : ℕ → Bool) (k : ℕ) (stream : List Held) : Record → Type 0 where
  never_written : ((p : ℕ) (h : Held) → At h stream p → WritesInstalled is_installed k h → ⊥) → LatestWrite is_installed k stream absent
  last_written : {p : ℕ} {h : Held} → At h stream p → WritesInstalled is_installed k h
      → ((q : ℕ) (g : Held) → p < q → At g stream q → WritesInstalled is_installed k g → ⊥) → LatestWrite is_installed k stream (written h)
