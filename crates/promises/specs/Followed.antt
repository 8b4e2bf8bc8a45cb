-- One account over a run: what its own turns made of it.
use Rattle.std.specs.Prelude.{ℕ, ◌≡◌, List, ◌∷◌, Ok}
use Rattle.model.specs.Account.{Account}
use Rattle.model.specs.Closing.{Piece}
use Rattle.model.specs.Runs.{Step, run, lists, Allowed, log, closings}
use Rattle.model.specs.declared.Entry.{Entry}
use Rattle.lot.specs.View.{holds}
use Rattle.lots.specs.Memory.{view_of}
use Rattle.promises.specs.Runs.{open_account, opened, Turn, Run}
use Rattle.promises.specs.Own.{Kept, own_turns, steps_of, lists_of}

-- ---- what the calls of the account with this number, in this lot, were answered in a run

module _ (number lot : ℕ) (ts : List Turn) where
  -- entries accepted and epochs closed, in the order of the calls
  abbrev pub steps_in : List Step
  steps_in = steps_of (own_turns number lot ts)

  -- the entries accepted in stream i
  abbrev pub accepted_in : ℕ → List Entry
  accepted_in i = log steps_in i

  -- how many epochs were closed, and the lists that these closes wrote
  abbrev pub closes_in : ℕ
  closes_in = closings steps_in

  abbrev pub lists_in : List (List Piece)
  lists_in = lists_of (own_turns number lot ts)

-- ---- the account at the end

-- account a was in the lot before the run: at the end the lot holds a with these entries taken and epochs closed, each of which a judged done, and the lists that the closes wrote are those of the model
pub record Followed (number lot : ℕ) (ts : List Turn) (a : Account) (m' : List ℕ) : Type 0 where
  pub held : view_of m' lot ≡ holds (run (steps_in number lot ts) a)
  pub allowed : Allowed (steps_in number lot ts) a
  pub listed : lists_in number lot ts ≡ lists (steps_in number lot ts) a

-- ---- a run that opens the account

-- the first call opens the account with f fragments and k keys, and is answered this lot; in the rest no start and no drop of the account there is done
pub record OpenedRun (number f k lot : ℕ) (rest : List Turn) (m' : List ℕ) : Type 0 where
  pub m : List ℕ
  pub lots : ℕ
  pub runs : Run m (record { call = open_account lots number f k; reply = opened (Ok lot) } ∷ rest) m'
  pub kept : Kept number lot rest

-- two runs of the account, each in its lot: each stream has had the same entries accepted, and as many epochs are closed
pub record SameAccepted (number lot₁ lot₂ : ℕ) (ts₁ ts₂ : List Turn) : Type 0 where
  pub entries : (i : ℕ) → accepted_in number lot₁ ts₁ i ≡ accepted_in number lot₂ ts₂ i
  pub epochs : closes_in number lot₁ ts₁ ≡ closes_in number lot₂ ts₂
