-- Closing an epoch in one lot: what it is answered, and what the lot and the list become.
use Rattle.std.specs.Prelude.{Option, ℕ, ◌+◌, ◌*◌, ◌≤◌, ◌≡◌, List, ◌++◌, length, drop, Result, Ok, Err}
use Rattle.model.specs.Account.{Account}
use Rattle.model.specs.Closing.{LEAST_LIST, judge_close, judge_room, close, listed, pairs, close_from}
use Rattle.model.specs.declared.Refusal.{Refusal}
use Rattle.lot.specs.Layout.{places_of, records_of}
use Rattle.lot.specs.View.{holds, view_lot, account_in}
use Rattle.lot.specs.declared.Account as numbers
use Rattle.writes.specs.Sections.{WithPlaces, WithRecords}
use Rattle.lot.specs.Look.{Looked}
use Rattle.verdicts.specs.declared.Verdict.{Verdict}
use Rattle.survivors.specs.Left as survivors
use Rattle.epoch.specs.Closed.{Installed}

-- ---- the judgement: 16, then 12

-- r is what the account that the lot l holds judges of a close, and of one with so much room
abbrev pub MarksJudged : List ℕ → Result (Unit {0}) Refusal → Type 0
MarksJudged l r = (a : Account) → view_lot l ≡ holds a → r ≡ judge_close a

abbrev pub Judged : List ℕ → ℕ → Result (Unit {0}) Refusal → Type 0
Judged l room r = (a : Account) → view_lot l ≡ holds a → r ≡ judge_room a room

-- ---- the close

-- an epoch that is to be closed: so the lot was looked at, and the close judged
pub record Due (l : List ℕ) (n : numbers.Account) (list : List ℕ) : Type 0 where
  pub looked : Looked l n
  pub room : LEAST_LIST ≤ length list
  pub marked : MarksJudged l (Ok tt)

-- the lot l' is l with the records that installing by the places h leaves, and the list is changed with them
pub record RecordsInstalled (l l' : List ℕ) (n : numbers.Account) (h list list' : List ℕ) (p : ℕ) (verdicts : List (Option Verdict)) : Type 0 where
  pub records : WithRecords l l' (records_of l')
  pub installed : Installed n.fragments n.closed n.held h (records_of l) (records_of l') list list' p verdicts

-- the lot l' is l with what the verdicts leave of the first n places of h, so many
pub record PlacesKept (l l' h : List ℕ) (verdicts : List (Option Verdict)) (n left : ℕ) : Type 0 where
  pub places : WithPlaces l l' (places_of l')
  pub fewer : left ≤ n
  pub stay : survivors.Left (places_of l') left verdicts h n

-- the numbers of an account after a close that leaves so many entries
abbrev pub closed_numbers : numbers.Account → ℕ → numbers.Account
closed_numbers n left = record { number = n.number; fragments = n.fragments; keys = n.keys; held = left; closed = n.closed + 1 }

-- the lot l' holds the account of l with the epoch closed, and the list has its pieces, so many
pub record ClosedWith (a : Account) (l' list list' : List ℕ) (count : ℕ) : Type 0 where
  pub counted : count ≡ length (listed a)
  pub view : view_lot l' ≡ holds (close a)
  pub list_is : list' ≡ pairs (listed a) ++ drop (2 * count) list

abbrev pub CloseDone : List ℕ → List ℕ → List ℕ → List ℕ → ℕ → Type 0
CloseDone l l' list list' count = (a : Account) → view_lot l ≡ holds a → ClosedWith a l' list list' count

-- ---- 2 and 3, then the judgement; a refusal changes nothing

abbrev pub Left : List ℕ → List ℕ → List ℕ → List ℕ → Result ℕ Refusal → Type 0
Left l l' list list' (Ok count) = CloseDone l l' list list' count
Left l l' list list' (Err r) = (l' ≡ l) × (list' ≡ list)

pub record LotClosed (l l' : List ℕ) (number : ℕ) (list list' : List ℕ) (r : Result ℕ Refusal) : Type 0 where
  pub answer : r ≡ close_from (account_in (view_lot l) number) (length list)
  pub left : Left l l' list list' r
