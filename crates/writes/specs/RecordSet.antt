-- An account with another record.
use Rattle.std.specs.Prelude.{ℕ, ◌&&◌, eqb, if◌then◌else◌}
use Rattle.model.specs.Account.{Record, Account}

-- the account a with the record x of fragment i and key k
unfoldable pub record_set : ℕ → ℕ → Record → Account → Account
record_set i k x a = record {
  number = a.number;
  fragments = a.fragments;
  keys = a.keys;
  closed = a.closed;
  at = λ j. record { counters = (a.at j).counters; held = (a.at j).held; records = λ l. if eqb i j && eqb k l then x else (a.at j).records l };
}
