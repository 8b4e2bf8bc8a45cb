-- What the lists of a run say was installed, and what a run follows.
use Rattle.std.specs.Prelude.{ℕ, ◌<◌, Bool, ◌&&◌, List, [], eqb, get_or}
use Rattle.model.specs.Lists.{any}
use Rattle.model.specs.Account.{fresh}
use Rattle.model.specs.Closing.{Piece}
use Rattle.model.specs.Runs.{Step, Allowed, log}
use Rattle.model.specs.Rules.{FirstPart, LogRules}
use Rattle.model.specs.declared.Entry.{Entry}

-- the list has piece (i, t)
unfoldable pub has_piece : ℕ → ℕ → List Piece → Bool
has_piece i t ps = any (λ p. eqb p.fragment i && eqb p.transaction t) ps

-- close number c of a run, counted from 0, lists it
abbrev pub listed_at : List (List Piece) → ℕ → ℕ → ℕ → Bool
listed_at ls c i t = has_piece i t (get_or ls c [])

-- some close of a run lists it: the piece is installed
unfoldable pub is_installed : List (List Piece) → ℕ → ℕ → Bool
is_installed ls i t = any (has_piece i t) ls

-- a run of an account that was opened with f fragments and k keys, whose entries are first parts of the streams that the primary wrote, which keep the five rules
pub record Follows (number f k : ℕ) (ss : List Step) (wrote : ℕ → List Entry) : Type 0 where
  pub allowed : Allowed ss (fresh number f k)
  pub first_part : (i : ℕ) → i < f → FirstPart (log ss i) (wrote i)
  pub rules : LogRules f wrote
