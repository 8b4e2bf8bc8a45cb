-- What each call owes: its answer, the named account afterwards, and that every other byte stays. A call is a relation between the lent memory before it (m) and after it (m').
use Rattle.std.specs.Prelude.{ℕ, ◌<◌, ◌≡◌, not, ◌&&◌, List, ltb, eqb, length, if◌then◌else◌, Option, Result, Ok, Err}
use Rattle.model.specs.Entry.{entry_of}
use Rattle.model.specs.Account.{Account, account_fits, fresh, Named, refused, found}
use Rattle.model.specs.Taking.{deliver_to, taken}
use Rattle.model.specs.declared.Refusal.TheVariants.{NoSuchLot, Damaged, NotThisAccount, OutsideAccount, AlreadyOpen, NoFreeLot, UnfitAccount}
use Rattle.model.specs.declared.Refusal.{Refusal}
use Rattle.lot.specs.View.{Lot, free, damaged, holds}
use Rattle.lot.specs.Writing.{found_of}
use Rattle.lots.specs.Memory.{memory_fits, lot_fits, view_of, OnlyLot, Becomes, named, is_damaged, is_free, is_of, some_below, lowest_below}

-- ---- start: 1

unfoldable pub start_answer : List ℕ → ℕ → Result (Unit {0}) Refusal
start_answer m lots = if memory_fits lots m then Ok tt else Err NoSuchLot

-- each of the first n lots is free
pub record AllFree (n : ℕ) (m m' : List ℕ) : Type 0 where
  pub long : length m' ≡ length m
  pub each : (i : ℕ) → i < n → view_of m' i ≡ free

-- every lot is free; a refusal changes nothing
abbrev pub FreedAll : List ℕ → List ℕ → ℕ → Result (Unit {0}) Refusal → Type 0
FreedAll m m' lots (Ok _) = AllFree lots m m'
FreedAll m m' lots (Err r) = m' ≡ m

pub record Started (m m' : List ℕ) (lots : ℕ) (r : Result (Unit {0}) Refusal) : Type 0 where
  pub answer : r ≡ start_answer m lots
  pub freed : FreedAll m m' lots r

-- ---- open: 1, 2, 15, 13, 14; the free lot with the lowest number

-- 13 and 14 of a call that opens account `number`, for open and load alike
unfoldable pub place_for : List ℕ → ℕ → ℕ → Result ℕ Refusal
place_for m lots number =
    if some_below (λ i. is_of number (view_of m i)) lots then Err AlreadyOpen
    else if some_below (λ i. is_free (view_of m i)) lots then Ok (lowest_below (λ i. is_free (view_of m i)) lots)
    else Err NoFreeLot

unfoldable pub open_answer : List ℕ → ℕ → ℕ → ℕ → ℕ → Result ℕ Refusal
open_answer m lots number f k =
    if not (memory_fits lots m) then Err NoSuchLot
    else if some_below (λ i. is_damaged (view_of m i)) lots then Err Damaged
    else if not (account_fits number f k) then Err UnfitAccount
    else place_for m lots number

-- lot i now holds account a, and nothing else has changed; a refusal changes nothing
abbrev pub OpenedAs : List ℕ → List ℕ → Account → Result ℕ Refusal → Type 0
OpenedAs m m' a (Ok i) = Becomes i m m' (holds a)
OpenedAs m m' a (Err r) = m' ≡ m

pub record AccountOpened (m m' : List ℕ) (lots number f k : ℕ) (r : Result ℕ Refusal) : Type 0 where
  pub answer : r ≡ open_answer m lots number f k
  pub opened : OpenedAs m m' (fresh number f k) r

-- ---- deliver: 1 to 11

unfoldable pub deliver_answer : List ℕ → ℕ → ℕ → ℕ → List ℕ → Result (Unit {0}) Refusal
deliver_answer m lots lot number bytes = deliver_to (named m lots lot number) bytes

-- the named lot's account has taken the entry, and nothing else has changed; a refusal changes nothing
abbrev pub TakenBy : List ℕ → List ℕ → ℕ → List ℕ → Result (Unit {0}) Refusal → Type 0
TakenBy m m' lot bytes (Ok _) = OnlyLot lot m m' × ((a : Account) → view_of m lot ≡ holds a → view_of m' lot ≡ holds (taken (entry_of bytes) a))
TakenBy m m' lot bytes (Err r) = m' ≡ m

pub record Delivered (m m' : List ℕ) (lots lot number : ℕ) (bytes : List ℕ) (r : Result (Unit {0}) Refusal) : Type 0 where
  pub answer : r ≡ deliver_answer m lots lot number bytes
  pub taken : TakenBy m m' lot bytes r

-- ---- read: 1, 2, 3, 6; it lends its memory unchanged

abbrev pub read_from : Named → ℕ → ℕ → Result (Option ℕ) Refusal
read_from (refused r) fragment key = Err r
read_from (found a) fragment key =
    if not (ltb fragment a.fragments && ltb key a.keys) then Err OutsideAccount
    else Ok (found_of ((a.at fragment).records key))

unfoldable pub read_answer : List ℕ → ℕ → ℕ → ℕ → ℕ → ℕ → Result (Option ℕ) Refusal
read_answer m lots lot number fragment key = read_from (named m lots lot number) fragment key

-- ---- drop: 1, 3; it frees a damaged lot whichever account is named

abbrev pub drop_from : Lot → ℕ → Result (Unit {0}) Refusal
drop_from damaged number = Ok tt
drop_from free number = Err NotThisAccount
drop_from (holds a) number = if eqb a.number number then Ok tt else Err NotThisAccount

unfoldable pub drop_answer : List ℕ → ℕ → ℕ → ℕ → Result (Unit {0}) Refusal
drop_answer m lots lot number = if not (lot_fits lots lot m) then Err NoSuchLot else drop_from (view_of m lot) number

abbrev pub Freed : List ℕ → List ℕ → ℕ → Result (Unit {0}) Refusal → Type 0
Freed m m' lot (Ok _) = Becomes lot m m' free
Freed m m' lot (Err r) = m' ≡ m

pub record Dropped (m m' : List ℕ) (lots lot number : ℕ) (r : Result (Unit {0}) Refusal) : Type 0 where
  pub answer : r ≡ drop_answer m lots lot number
  pub freed : Freed m m' lot r
