-- What the overview owes: 1, 16; account, closed epoch, held count and damage of each lot.
use Rattle.std.specs.Prelude.{ℕ, ◌≡◌, not, List, [], ◌∷◌, ◌++◌, ltb, length, drop, if◌then◌else◌, Result, Ok, Err}
use Rattle.model.specs.Lists.{upward}
use Rattle.model.specs.Account.{held_count}
use Rattle.model.specs.declared.Refusal.TheVariants.{NoSuchLot, TooShort}
use Rattle.model.specs.declared.Refusal.{Refusal}
use Rattle.lot.specs.View.{Lot, free, damaged, holds}
use Rattle.lot.specs.declared.Look.{Look}
use Rattle.lot.specs.declared.Look.TheVariants.{Free, Damaged, Holds}
use Rattle.lots.specs.Memory.{memory_fits, lot_fits, view_of}
use Rattle.overview.specs.declared.Row.{Row}

abbrev pub row_of : Lot → Row
row_of free = record { account = 0; closed = 0; held = 0; damaged = 0 }
row_of damaged = record { account = 0; closed = 0; held = 0; damaged = 1 }
row_of (holds a) = record { account = a.number; closed = a.closed; held = held_count a; damaged = 0 }

-- the row of one lot, and that of a free one where there is no such lot
unfoldable pub row_at : List ℕ → ℕ → ℕ → Row
row_at m lots lot = if lot_fits lots lot m then row_of (view_of m lot) else row_of free

-- n: how many rows are lent
unfoldable pub overview_answer : List ℕ → ℕ → ℕ → Result (Unit {0}) Refusal
overview_answer m lots n =
    if not (memory_fits lots m) then Err NoSuchLot
    else if ltb n lots then Err TooShort
    else Ok tt

-- one row for each lot is filled in, and none where it is refused; later rows stay
abbrev pub rows_for : ℕ → Result (Unit {0}) Refusal → ℕ
rows_for lots (Ok _) = lots
rows_for lots (Err r) = 0

abbrev pub rows_with : List ℕ → List Row → ℕ → List Row
rows_with m rows n = upward n 0 (λ i. row_of (view_of m i) ∷ []) ++ drop n rows

pub record Overviewed (m : List ℕ) (lots : ℕ) (rows rows' : List Row) (r : Result (Unit {0}) Refusal) : Type 0 where
  pub answer : r ≡ overview_answer m lots (length rows)
  pub filled : rows' ≡ rows_with m rows (rows_for lots r)

-- what a row says by one look at a lot: the numbers of an account stand for the account
abbrev pub row_from : Look → Row
row_from Free = record { account = 0; closed = 0; held = 0; damaged = 0 }
row_from Damaged = record { account = 0; closed = 0; held = 0; damaged = 1 }
row_from (Holds n) = record { account = n.number; closed = n.closed; held = n.held; damaged = 0 }
