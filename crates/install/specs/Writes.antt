-- The records after the write of one place, and after a transaction's writes in its stream.
use Rattle.std.specs.Prelude.{ℕ, ◌<◌, ◌≡◌, List, eqb, length, if◌then◌else◌}
use Rattle.model.specs.Account.{Record}
use Rattle.model.specs.Closing.{writes_to, written, after_writes}
use Rattle.model.specs.Image.{Item}
use Rattle.model.specs.Section.{item_at}
use Rattle.verdicts.specs.Verdicts.{held_in}
use Rattle.lot.specs.View.{record_at}

-- the records r' are those of r with stream s changed by g, for keys below 128
pub record Changed (r r' : List ℕ) (s : ℕ) (g : ℕ → Record → Record) : Type 0 where
  pub size : length r' ≡ length r
  pub are : (j k : ℕ) → k < 128 → record_at r' j k ≡ (if eqb s j then g k (record_at r j k) else record_at r j k)

-- by the entry of a place
abbrev pub write_of : Item → ℕ → Record → Record
write_of x k y = if writes_to k x.entry then written x.entry else y

-- by the writes of the transaction of place i that stand before it
abbrev pub writes_before : List ℕ → ℕ → ℕ → Record → Record
writes_before h i k y = after_writes (λ u. eqb u (item_at h i).entry.transaction) k (held_in h i (item_at h i).stream) y
