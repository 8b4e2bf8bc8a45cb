-- Runs of one account: entries taken and epochs closed, in any order.
use Rattle.std.specs.Prelude.{ℕ, zero, suc, ◌≡◌, List, [], ◌∷◌, eqb, if◌then◌else◌, Ok}
use Rattle.model.specs.Account.{Account}
use Rattle.model.specs.Taking.{judge_entry, taken}
use Rattle.model.specs.Closing.{judge_close, close, Piece, listed}
use Rattle.model.specs.declared.Entry.{Entry}

pub data Step : Type 0 where
  taking : Entry → Step
  closing : Step

unfoldable pub run : List Step → Account → Account
run [] a = a
run (taking e ∷ ss) a = run ss (taken e a)
run (closing ∷ ss) a = run ss (close a)

-- what the closes of a run list
unfoldable pub lists : List Step → Account → List (List Piece)
lists [] a = []
lists (taking e ∷ ss) a = lists ss (taken e a)
lists (closing ∷ ss) a = listed a ∷ lists ss (close a)

-- each entry is one that the judgement takes, and each close is possible
unfoldable pub Allowed : List Step → Account → Type 0
Allowed [] a = Unit {0}
Allowed (taking e ∷ ss) a = (judge_entry a e ≡ Ok tt) × Allowed ss (taken e a)
Allowed (closing ∷ ss) a = (judge_close a ≡ Ok tt) × Allowed ss (close a)

-- the entries taken in stream j, and how many closes
unfoldable pub log : List Step → ℕ → List Entry
log [] j = []
log (taking e ∷ ss) j = if eqb e.fragment j then e ∷ log ss j else log ss j
log (closing ∷ ss) j = log ss j

unfoldable pub closings : List Step → ℕ
closings [] = zero
closings (taking e ∷ ss) = closings ss
closings (closing ∷ ss) = suc (closings ss)
