-- What a call lends to be written, and where it writes in the memory: in its own lot, start alone in all lots, and nowhere where it is refused.
use Rattle.std.specs.Prelude.{ℕ, ◌≡◌, Bool, List, [], eqb, length, if◌then◌else◌}
use Rattle.model.specs.declared.Numbers.{Numbers}
use Rattle.lots.specs.Memory.{view_of, OnlyLot, Becomes}
use Rattle.overview.specs.declared.Row.{Row}
use Rattle.promises.specs.Runs.{Call, start, open_account, deliver, close_epoch, read_record, save_account, load_account, drop_account, overview, Reply, outcome, opened, closed, found, saved, overviewed, reply_numbers}

-- 0 is done
abbrev pub is_done : Reply → Bool
is_done r = eqb (reply_numbers r).number 0

-- ---- in the memory

pub data Where : Type 0 where
  nowhere : Where
  in_lot : ℕ → Where
  in_all_lots : Where

-- where a call writes that is done; open and load answer the lot
abbrev pub target : Call → Numbers → Where
target (start lots) n = in_all_lots
target (open_account lots number f k) n = in_lot n.first
target (deliver lots lot number entry) n = in_lot lot
target (close_epoch lots lot number list) n = in_lot lot
target (read_record lots lot number fragment key) n = nowhere
target (save_account lots lot number buffer) n = nowhere
target (load_account lots given) n = in_lot n.first
target (drop_account lots lot number) n = in_lot lot
target (overview lots rows) n = nowhere

abbrev pub writes : Call → Reply → Where
writes c r = if is_done r then target c (reply_numbers r) else nowhere

-- every byte elsewhere stays
abbrev pub Elsewhere : Where → List ℕ → List ℕ → Type 0
Elsewhere nowhere m m' = m' ≡ m
Elsewhere (in_lot i) m m' = OnlyLot i m m'
Elsewhere in_all_lots m m' = length m' ≡ length m

-- ---- beside the memory

-- close lends a list, save a buffer, the overview rows
pub record Lent : Type 0 where
  pub list : List ℕ
  pub buffer : List ℕ
  pub rows : List Row

abbrev pub nothing_lent : Lent
nothing_lent = record { list = []; buffer = []; rows = [] }

-- as the call lends them, and as the reply has them afterwards
abbrev pub lent_to : Call → Lent
lent_to (start lots) = nothing_lent
lent_to (open_account lots number f k) = nothing_lent
lent_to (deliver lots lot number entry) = nothing_lent
lent_to (close_epoch lots lot number l) = record { list = l; buffer = []; rows = [] }
lent_to (read_record lots lot number fragment key) = nothing_lent
lent_to (save_account lots lot number b) = record { list = []; buffer = b; rows = [] }
lent_to (load_account lots given) = nothing_lent
lent_to (drop_account lots lot number) = nothing_lent
lent_to (overview lots rs) = record { list = []; buffer = []; rows = rs }

abbrev pub left_in : Reply → Lent
left_in (outcome r) = nothing_lent
left_in (opened r) = nothing_lent
left_in (closed r l) = record { list = l; buffer = []; rows = [] }
left_in (found r) = nothing_lent
left_in (saved r b) = record { list = []; buffer = b; rows = [] }
left_in (overviewed r rs) = record { list = []; buffer = []; rows = rs }

-- ---- two memories that a call may leave, by where it writes: the same bytes elsewhere, and the same free, damaged or held account there

abbrev pub Same : Where → List ℕ → List ℕ → Type 0
Same nowhere m₁ m₂ = m₂ ≡ m₁
Same (in_lot i) m₁ m₂ = Becomes i m₁ m₂ (view_of m₁ i)
Same in_all_lots m₁ m₂ = (length m₂ ≡ length m₁) × ((i : ℕ) → view_of m₂ i ≡ view_of m₁ i)
