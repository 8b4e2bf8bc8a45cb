-- What load learns before it writes: the lot to load into, and the numbers of the judged image.
use Rattle.std.specs.Prelude.{ℕ, ◌≡◌, List, Some, Result, Ok, Err}
use Rattle.model.specs.declared.Refusal.{Refusal}
use Rattle.trailer.specs.declared.Trailer.{Trailer}
use Rattle.judging.specs.Judging.{judged_of}
use Rattle.standby.specs.Images.{load_answer}

abbrev pub LoadJudged : List ℕ → ℕ → List ℕ → Result (ℕ × Trailer) Refusal → Type 0
LoadJudged m lots given (Ok (lot, t)) = (load_answer m lots given ≡ Ok lot) × (judged_of given ≡ Some t)
LoadJudged m lots given (Err r) = load_answer m lots given ≡ Err r
