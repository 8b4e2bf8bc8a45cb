-- What the calls learn from one look at a lot: the numbers of an account stand for the account.
use Rattle.std.specs.Prelude.{ℕ, Bool, true, false, ◌||◌, List, eqb, if◌then◌else◌, Option, Some, None, Result, Ok, Err, ok_or}
use Rattle.std.specs.Option.{option_or}
use Rattle.model.specs.Account as model
use Rattle.model.specs.Account.{Named, refused, found}
use Rattle.model.specs.declared.Refusal.TheVariants as refusal
use Rattle.model.specs.declared.Refusal.{Refusal}
use Rattle.lot.specs.View.{Lot, free, damaged, holds}
use Rattle.lot.specs.Head.{numbers_with}
use Rattle.lot.specs.declared.Account.{Account}
use Rattle.lot.specs.declared.Look.{Look}
use Rattle.lot.specs.declared.Look.TheVariants.{Free, Damaged, Holds}
use Rattle.lots.specs.Memory.{view_of, is_damaged, is_free, is_of, some_below, lowest_below}
use Rattle.lots.specs.declared.Survey.{Survey}

-- the numbers of an account, and what a look at a lot answers
abbrev pub numbers_from : model.Account → Account
numbers_from a = numbers_with (model.held_count a) a

abbrev pub look_from : Lot → Look
look_from free = Free
look_from damaged = Damaged
look_from (holds a) = Holds (numbers_from a)

-- ---- one lot

abbrev pub looks_damaged : Look → Bool
looks_damaged Free = false
looks_damaged Damaged = true
looks_damaged (Holds n) = false

abbrev pub looks_free : Look → Bool
looks_free Free = true
looks_free Damaged = false
looks_free (Holds n) = false

abbrev pub looks_of : ℕ → Look → Bool
looks_of number Free = false
looks_of number Damaged = false
looks_of number (Holds n) = eqb n.number number

-- ---- a lot and an account are named

abbrev pub finding_of : Named → Result Account Refusal
finding_of (refused r) = Err r
finding_of (found a) = Ok (numbers_from a)

-- ---- all lots

-- the lowest number below n that passes, if one does
abbrev pub first_below : (ℕ → Bool) → ℕ → Option ℕ
first_below p n = if some_below p n then Some (lowest_below p n) else None

-- a lot is that of the account, if one is named
abbrev pub is_named : Option ℕ → Lot → Bool
is_named None v = false
is_named (Some number) v = is_of number v

abbrev pub looks_named : Option ℕ → Look → Bool
looks_named None l = false
looks_named (Some number) l = looks_of number l

-- the first n lots, for a call that opens the account, if one is named
unfoldable pub survey_of : List ℕ → Option ℕ → ℕ → Survey
survey_of m account n = record {
  damaged = some_below (λ i. is_damaged (view_of m i)) n;
  known = some_below (λ i. is_named account (view_of m i)) n;
  free = first_below (λ i. is_free (view_of m i)) n;
}

-- a survey and a look at lot i
abbrev pub with_look : Survey → ℕ → Look → Option ℕ → Survey
with_look s i l account = record {
  damaged = s.damaged || looks_damaged l;
  known = s.known || looks_named account l;
  free = option_or s.free (if looks_free l then Some i else None);
}

-- 13 and 14 of a call that opens an account, from a survey of all lots
abbrev pub place_in : Survey → Result ℕ Refusal
place_in s = if s.known then Err refusal.AlreadyOpen else ok_or s.free refusal.NoFreeLot
