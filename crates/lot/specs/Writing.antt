-- The streams and the records of a lot after a write, and a record as it is answered.
use Rattle.std.specs.Prelude.{ℕ, ◌+◌, ◌*◌, List, set, Option, Some, None}
use Rattle.wire.specs.Numbers.{with16, with32}
use Rattle.model.specs.Account.{Record, absent, present}
use Rattle.model.specs.declared.Counters.{Counters}

-- the streams s with the counters c of stream i: next number 2, zero 2, open epoch 4
unfoldable pub with_counters : List ℕ → ℕ → Counters → List ℕ
with_counters s i c = with32 (with16 (with16 s (i * 8) c.next) (i * 8 + 2) 0) (i * 8 + 4) c.epoch

-- the records r with a value at fragment i and key k, and with none there: its four bytes stay
unfoldable pub with_record : List ℕ → ℕ → ℕ → ℕ → List ℕ
with_record r i k v = with32 (set r ((i * 128 + k) * 5) 1) ((i * 128 + k) * 5 + 1) v

unfoldable pub without_record : List ℕ → ℕ → ℕ → List ℕ
without_record r i k = set r ((i * 128 + k) * 5) 0

abbrev pub found_of : Record → Option ℕ
found_of absent = None
found_of (present v) = Some v
