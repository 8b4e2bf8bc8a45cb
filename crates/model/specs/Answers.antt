-- The numbers of each answer: 0 is done; a refusal returns its number, other numbers 0 (but for 12).
use Rattle.std.specs.Prelude.{ℕ, Option, Some, None, Result, Ok, Err}
use Rattle.model.specs.declared.Numbers.{Numbers}
use Rattle.model.specs.declared.Refusal.{Refusal}
use Rattle.model.specs.declared.Refusal.TheVariants.{NoSuchLot, Damaged, NotThisAccount, WrongLength, Unfit, OutsideAccount, Seen, Gap, WrongMark, OutOfTurn, Full, MarkMissing, AlreadyOpen, NoFreeLot, UnfitAccount, TooShort, NotAccepted}

-- the answer's number and its two other numbers
abbrev pub numbers : ℕ → ℕ → ℕ → Numbers
numbers n x y = record { number = n; first = x; second = y }

abbrev pub refusal_numbers : Refusal → Numbers
refusal_numbers NoSuchLot = numbers 1 0 0
refusal_numbers Damaged = numbers 2 0 0
refusal_numbers NotThisAccount = numbers 3 0 0
refusal_numbers WrongLength = numbers 4 0 0
refusal_numbers Unfit = numbers 5 0 0
refusal_numbers OutsideAccount = numbers 6 0 0
refusal_numbers Seen = numbers 7 0 0
refusal_numbers Gap = numbers 8 0 0
refusal_numbers WrongMark = numbers 9 0 0
refusal_numbers OutOfTurn = numbers 10 0 0
refusal_numbers Full = numbers 11 0 0
refusal_numbers (MarkMissing streams count) = numbers 12 streams count
refusal_numbers AlreadyOpen = numbers 13 0 0
refusal_numbers NoFreeLot = numbers 14 0 0
refusal_numbers UnfitAccount = numbers 15 0 0
refusal_numbers TooShort = numbers 16 0 0
refusal_numbers NotAccepted = numbers 17 0 0

-- start, deliver, drop, overview
abbrev pub outcome_numbers : Result (Unit {0}) Refusal → Numbers
outcome_numbers (Ok _) = numbers 0 0 0
outcome_numbers (Err r) = refusal_numbers r

-- open and load also answer the lot, close the count of pieces, save the image's length
abbrev pub counted_numbers : Result ℕ Refusal → Numbers
counted_numbers (Ok n) = numbers 0 n 0
counted_numbers (Err r) = refusal_numbers r

abbrev pub opened_numbers : Result ℕ Refusal → Numbers
opened_numbers r = counted_numbers r

abbrev pub closed_numbers : Result ℕ Refusal → Numbers
closed_numbers r = counted_numbers r

abbrev pub saved_numbers : Result ℕ Refusal → Numbers
saved_numbers r = counted_numbers r

-- read answers 1 and the value or, for an absent record, 0 and 0
abbrev pub found_numbers : Result (Option ℕ) Refusal → Numbers
found_numbers (Ok (Some value)) = numbers 0 1 value
found_numbers (Ok None) = numbers 0 0 0
found_numbers (Err r) = refusal_numbers r
