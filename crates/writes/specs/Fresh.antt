-- Fresh streams, and bytes that are all zero.
use Rattle.std.specs.Prelude.{ℕ, zero, suc, ◌≡◌, List, get_or}
use Rattle.model.specs.Account.{fresh_counters}
use Rattle.lot.specs.Writing.{with_counters}

-- the streams s with the first n fresh
unfoldable pub fresh_streams : List ℕ → ℕ → List ℕ
fresh_streams s zero = s
fresh_streams s (suc n) = with_counters (fresh_streams s n) n fresh_counters

-- every byte of r is zero
unfoldable pub Zeros : List ℕ → Type 0
Zeros r = (n : ℕ) → get_or r n 0 ≡ 0
