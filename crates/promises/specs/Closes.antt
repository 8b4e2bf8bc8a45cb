-- What a close that is done gives: all of it is the model's, so that of the published epoch algorithm as the page states it.
use Rattle.std.specs.Prelude.{ℕ, ◌*◌, ◌≡◌, List, length, drop, Ok}
use Rattle.model.specs.Account.{Account, Record}
use Rattle.model.specs.Closing.{judge_close, close, listed}
use Rattle.lot.specs.View.{holds}
use Rattle.lot.specs.Writing.{found_of}
use Rattle.lots.specs.Memory.{view_of}
use Rattle.promises.specs.Runs.{read_record, found, Step}
use Rattle.promises.specs.Own.{first_pieces}

-- the lot held account a, and a close answered this count and left this list and memory
pub record ClosedByModel (number lot : ℕ) (a : Account) (count : ℕ) (list list' m' : List ℕ) : Type 0 where
  -- every stream had taken the mark
  pub possible : judge_close a ≡ Ok tt
  -- the account, with its held entries
  pub held : view_of m' lot ≡ holds (close a)
  -- the pieces installed, counted and listed; later numbers of the list stay as they were
  pub counted : count ≡ length (listed a)
  pub pieces : first_pieces count list' ≡ listed a
  pub later : drop (2 * count) list' ≡ drop (2 * count) list
  -- every record, as read is answered afterwards
  pub records : {lots i k : ℕ} {m'' : List ℕ} (x : Record) → Step m' (read_record lots lot number i k) (found (Ok (found_of x))) m'' → x ≡ ((close a).at i).records k
