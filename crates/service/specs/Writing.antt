-- What the inner functions are asked: how much of a list is lent on, how much is written back.
use Rattle.std.specs.Prelude.{ℕ, ◌*◌, List, [], ◌∷◌, ltb, if◌then◌else◌, Result, Ok, Err}
use Rattle.model.specs.Lists.{upward}
use Rattle.model.specs.Closing.{LEAST_LIST}
use Rattle.model.specs.declared.Refusal.{Refusal}
use Rattle.overview.specs.Overview.{row_at}
use Rattle.overview.specs.declared.Row.{Row}

-- how many numbers a close is lent where so many bytes are: all that it asks for, or none
unfoldable pub room_in : ℕ → ℕ
room_in bytes = if ltb bytes (4 * LEAST_LIST) then 0 else LEAST_LIST

-- how many numbers a close writes
abbrev pub written_by : Result ℕ Refusal → ℕ
written_by (Ok count) = 2 * count
written_by (Err r) = 0

-- the rows of the first n lots
abbrev pub rows_at : List ℕ → ℕ → ℕ → List Row
rows_at m lots n = upward n 0 (λ i. row_at m lots i ∷ [])
