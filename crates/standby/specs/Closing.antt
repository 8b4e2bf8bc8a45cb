-- What close owes: 1, 2, 3, 16, 12; the pieces, the list, and the account with the epoch closed.
use Rattle.std.specs.Prelude.{ℕ, ◌*◌, ◌≡◌, List, ◌++◌, length, drop, Result, Ok, Err}
use Rattle.model.specs.Account.{Account}
use Rattle.model.specs.Closing.{close, listed, pairs, close_from}
use Rattle.model.specs.declared.Refusal.{Refusal}
use Rattle.lot.specs.View.{holds}
use Rattle.lots.specs.Memory.{view_of, OnlyLot, named}

unfoldable pub close_answer : List ℕ → ℕ → ℕ → ℕ → List ℕ → Result ℕ Refusal
close_answer m lots lot number list = close_from (named m lots lot number) (length list)

-- the named account's epoch is closed, the list has its pieces, and nothing else has changed; a refusal changes nothing
abbrev pub ClosedAs : List ℕ → List ℕ → ℕ → List ℕ → List ℕ → Result ℕ Refusal → Type 0
ClosedAs m m' lot list list' (Ok count) =
    OnlyLot lot m m' × ((a : Account) → view_of m lot ≡ holds a → (view_of m' lot ≡ holds (close a)) × (list' ≡ pairs (listed a) ++ drop (2 * count) list))
ClosedAs m m' lot list list' (Err r) = (m' ≡ m) × (list' ≡ list)

pub record EpochClosed (m m' : List ℕ) (lots lot number : ℕ) (list list' : List ℕ) (r : Result ℕ Refusal) : Type 0 where
  pub answer : r ≡ close_answer m lots lot number list
  pub closed : ClosedAs m m' lot list list' r
