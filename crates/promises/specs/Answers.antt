-- Which numbers a call may be answered, when each refusal is given, and the answer.
use Rattle.std.specs.Prelude.{ℕ, ◌/◌, ◌%◌, ◌≤◌, ◌≡◌, Bool, true, false, not, ◌&&◌, List, [], ◌∷◌, ltb, eqb, length, ℤ, if◌then◌else◌, Option, Some, None}
use Rattle.model.specs.Lists.{any, count_below}
use Rattle.model.specs.Entry.{LENGTH, entry_of, fits, inside}
use Rattle.model.specs.Distance.{distance, below_zero, above_zero}
use Rattle.model.specs.Account.{Account, account_fits, held_count}
use Rattle.model.specs.Stages.{stage}
use Rattle.model.specs.Taking.{wrong_mark, not_taken, full}
use Rattle.model.specs.Closing.{missing, LEAST_LIST}
use Rattle.model.specs.Image.{LONGEST_IMAGE}
use Rattle.model.specs.Decoding.{load}
use Rattle.model.specs.Answers.{outcome_numbers, opened_numbers, closed_numbers, found_numbers, saved_numbers}
use Rattle.model.specs.declared.Entry.{Entry}
use Rattle.model.specs.declared.Numbers.{Numbers}
use Rattle.lot.specs.View.{Lot, free, damaged, holds}
use Rattle.lots.specs.Memory.{memory_fits, lot_fits, view_of, is_damaged, is_free, is_of, some_below}
use Rattle.standby.specs.Calls.{start_answer, open_answer, deliver_answer, read_answer, drop_answer}
use Rattle.standby.specs.Closing.{close_answer}
use Rattle.standby.specs.Images.{save_answer, load_answer}
use Rattle.overview.specs.Overview.{overview_answer}
use Rattle.service.specs.Packing.{packed}
use Rattle.promises.specs.Runs.{Call, start, open_account, deliver, close_epoch, read_record, save_account, load_account, drop_account, overview}

-- ---- the page's "Order"

abbrev pub order : Call → List ℕ
order (start lots) = 1 ∷ []
order (open_account lots number f k) = 1 ∷ 2 ∷ 15 ∷ 13 ∷ 14 ∷ []
order (deliver lots lot number entry) = 1 ∷ 2 ∷ 3 ∷ 4 ∷ 5 ∷ 6 ∷ 7 ∷ 8 ∷ 9 ∷ 10 ∷ 11 ∷ []
order (close_epoch lots lot number list) = 1 ∷ 2 ∷ 3 ∷ 16 ∷ 12 ∷ []
order (read_record lots lot number fragment key) = 1 ∷ 2 ∷ 3 ∷ 6 ∷ []
order (save_account lots lot number buffer) = 1 ∷ 2 ∷ 3 ∷ 16 ∷ []
order (load_account lots given) = 1 ∷ 2 ∷ 17 ∷ 13 ∷ 14 ∷ []
order (drop_account lots lot number) = 1 ∷ 3 ∷ []
order (overview lots rows) = 1 ∷ 16 ∷ []

-- an answer of the page: 0 is done; a refusal returns a number of the call's order, other numbers 0 (but for 12)
pub record Known (c : Call) (n : Numbers) : Type 0 where
  pub listed : any (eqb n.number) (0 ∷ order c) ≡ true
  pub others : eqb n.number 0 ≡ false → eqb n.number 12 ≡ false → (n.first ≡ 0) × (n.second ≡ 0)

-- .. and in range: refusals go to 17, and no first number (lot, count of pieces, byte, image's length) is above the longest image's length
pub record InRange (n : Numbers) : Type 0 where
  pub number_most : n.number ≤ 17
  pub first_most : n.first ≤ LONGEST_IMAGE

-- .. so that the three come back from the 64 bits that C gets, as include/standby.h takes them out: bits 0-7, bits 8-31, bits 32-63
pub record ComesBack (n : Numbers) : Type 0 where
  pub number_part : packed n % 256 ≡ n.number
  pub first_part : packed n / 256 % 16777216 ≡ n.first
  pub second_part : packed n / 4294967296 ≡ n.second

-- ---- the answer's three numbers, as each call's contract has them

unfoldable pub answer_of : List ℕ → Call → Numbers
answer_of m (start lots) = outcome_numbers (start_answer m lots)
answer_of m (open_account lots number f k) = opened_numbers (open_answer m lots number f k)
answer_of m (deliver lots lot number entry) = outcome_numbers (deliver_answer m lots lot number entry)
answer_of m (close_epoch lots lot number list) = closed_numbers (close_answer m lots lot number list)
answer_of m (read_record lots lot number fragment key) = found_numbers (read_answer m lots lot number fragment key)
answer_of m (save_account lots lot number buffer) = saved_numbers (save_answer m lots lot number buffer)
answer_of m (load_account lots given) = opened_numbers (load_answer m lots given)
answer_of m (drop_account lots lot number) = outcome_numbers (drop_answer m lots lot number)
answer_of m (overview lots rows) = outcome_numbers (overview_answer m lots (length rows))

-- ---- the page's table: when each refusal is given, each condition by itself

-- a refusal's number, and whether its condition holds
pub record Condition : Type 0 where
  pub number : ℕ
  pub met : Bool

infix 90 ◌when◌
abbrev pub ◌when◌ : ℕ → Bool → Condition
n when b = record { number = n; met = b }

-- of the account that the lot holds, and of the account that the data given show
abbrev pub of_held : Lot → (Account → Bool) → Bool
of_held free p = false
of_held damaged p = false
of_held (holds a) p = p a

abbrev pub is_none : Option Account → Bool
is_none None = true
is_none (Some a) = false

abbrev pub of_shown : Option Account → (Account → Bool) → Bool
of_shown None p = false
of_shown (Some a) p = p a

-- 3: the lot is free or another account's
abbrev pub free_or_other : ℕ → Lot → Bool
free_or_other number free = true
free_or_other number damaged = false
free_or_other number (holds a) = not (eqb a.number number)

module _ (m : List ℕ) (lots : ℕ) where
  -- lot count not 1..16, memory not exactly that many lots
  abbrev pub unfit_memory : Condition
  unfit_memory = 1 when not (memory_fits lots m)

  abbrev pub some_damaged : Condition
  some_damaged = 2 when some_below (λ i. is_damaged (view_of m i)) lots

  -- account already open / no free lot
  abbrev pub already_open : ℕ → Bool
  already_open number = some_below (λ i. is_of number (view_of m i)) lots

  abbrev pub no_free_lot : Condition
  no_free_lot = 14 when not (some_below (λ i. is_free (view_of m i)) lots)

  -- .. or no such lot
  abbrev pub no_such_lot : ℕ → Condition
  no_such_lot lot = 1 when not (lot_fits lots lot m)

  -- 1, 2, 3 of a call that names a lot and an account
  abbrev pub not_found : ℕ → ℕ → List Condition → List Condition
  not_found lot number cs = no_such_lot lot ∷ 2 when is_damaged (view_of m lot) ∷ 3 when free_or_other number (view_of m lot) ∷ cs

-- the entry in its stream of the account
module _ (a : Account) (e : Entry) where
  abbrev pub received : ℤ
  received = distance e.sequence (a.at e.fragment).counters.next

-- 4 to 11 of an entry for the account that the lot holds
abbrev pub entry_conditions : Lot → List ℕ → List Condition
entry_conditions v bytes =
    let e = entry_of bytes in
    4 when not (eqb (length bytes) LENGTH)
    ∷ 5 when not (fits e)
    ∷ 6 when of_held v (λ a. not (inside a.fragments a.keys e))
    ∷ 7 when of_held v (λ a. below_zero (received a e))
    ∷ 8 when of_held v (λ a. above_zero (received a e))
    ∷ 9 when of_held v (λ a. wrong_mark (a.at e.fragment).counters.epoch e)
    ∷ 10 when of_held v (λ a. not_taken (stage e.transaction (a.at e.fragment).held) e)
    ∷ 11 when of_held v (λ a. full (held_count a) e)
    ∷ []

-- 16 and 12 of a close; 6 of a read
abbrev pub close_conditions : Lot → ℕ → List Condition
close_conditions v room = 16 when ltb room LEAST_LIST ∷ 12 when of_held v (λ a. not (eqb (count_below (missing a) a.fragments) 0)) ∷ []

abbrev pub outside : Lot → ℕ → ℕ → Condition
outside v fragment key = 6 when of_held v (λ a. not (ltb fragment a.fragments && ltb key a.keys))

-- the conditions of a call, in its order
unfoldable pub conditions : List ℕ → Call → List Condition
conditions m (start lots) = unfit_memory m lots ∷ []
conditions m (open_account lots number f k) =
    unfit_memory m lots ∷ some_damaged m lots
    ∷ 15 when not (account_fits number f k)
    ∷ 13 when already_open m lots number
    ∷ no_free_lot m lots
    ∷ []
conditions m (deliver lots lot number bytes) = not_found m lots lot number (entry_conditions (view_of m lot) bytes)
conditions m (close_epoch lots lot number list) = not_found m lots lot number (close_conditions (view_of m lot) (length list))
conditions m (read_record lots lot number fragment key) = not_found m lots lot number (outside (view_of m lot) fragment key ∷ [])
conditions m (save_account lots lot number buffer) = not_found m lots lot number (16 when ltb (length buffer) LONGEST_IMAGE ∷ [])
conditions m (load_account lots given) =
    unfit_memory m lots ∷ some_damaged m lots
    ∷ 17 when is_none (load given)
    ∷ 13 when of_shown (load given) (λ a. already_open m lots a.number)
    ∷ no_free_lot m lots
    ∷ []
conditions m (drop_account lots lot number) = no_such_lot m lots lot ∷ 3 when free_or_other number (view_of m lot) ∷ []
conditions m (overview lots rows) = unfit_memory m lots ∷ 16 when ltb (length rows) lots ∷ []

-- the number of the first that holds, and 0 where none does
unfoldable pub first_met : List Condition → ℕ
first_met [] = 0
first_met (c ∷ cs) = if c.met then c.number else first_met cs
