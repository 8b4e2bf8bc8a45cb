-- The starred lines of docs/RULES.md as one table: those that the model computes, and f = 9 as open answers it. StarredAnswered has the claim.
use Rattle.std.specs.Prelude.{ℕ, false, List, [], ◌∷◌, ◌++◌}
use Rattle.model.specs.Account.{account_fits}
use Rattle.model.specs.Answers.{opened_numbers}
use Rattle.model.proofs.Cases.{account_fits_is, Line, ◌says◌, starred_lines}
use Rattle.standby.specs.Calls.{open_answer}

module _ (m : List ℕ) (lots : ℕ) where
  -- f = 9: 15.
  abbrev pub nine_fragments : Line
  nine_fragments = account_fits_is (account_fits 7 9 4) (opened_numbers (open_answer m lots 7 9 4)).number says account_fits_is false 15

  abbrev pub answered_lines : List Line
  answered_lines = starred_lines ++ nine_fragments ∷ []
