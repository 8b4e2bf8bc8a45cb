-- The last earlier place with a stream and a transaction, and the buckets in which it is looked for.
use Rattle.std.specs.Prelude.{ℕ, zero, suc, ◌+◌, ◌*◌, ◌/◌, ◌%◌, ◌<◌, ◌≤◌, ◌≡◌, Bool, ◌&&◌, List, Option, Some, None, eqb, get_or, if◌then◌else◌}
use Rattle.std.proofs.Math.Nat.{ℕ_set}
use Rattle.model.specs.Section.{item_at}

-- one more than the last number below n that passes the test, or 0
unfoldable pub last_with : (ℕ → Bool) → ℕ → ℕ
last_with p zero = 0
last_with p (suc n) = if p n then suc n else last_with p n

-- one more than the place that looking back answers, or 0
abbrev pub one_past : Option ℕ → ℕ
one_past None = 0
one_past (Some i) = suc i

-- place i is of stream s and of transaction t
unfoldable pub is_of : List ℕ → ℕ → ℕ → ℕ → Bool
is_of h s t i = eqb (item_at h i).stream s && eqb (item_at h i).entry.transaction t

-- the last place before place i of its stream and transaction
abbrev pub last_before : List ℕ → ℕ → ℕ
last_before h i = last_with (is_of h (item_at h i).stream (item_at h i).entry.transaction) i

-- `last` holds the answer of each place below n
unfoldable pub Lasts : List (Option ℕ) → List ℕ → ℕ → Type 0
Lasts last h n = (i : ℕ) → i < n → one_past (get_or last i None) ≡ last_before h i

-- a ghost field may say it
pub Lasts-prop : (last : List (Option ℕ)) (h : List ℕ) (n : ℕ) → IsProp (Lasts last h n)
unfolding Lasts
Lasts-prop last h n = hlevel ℕ_set

-- ---- the places of each bucket are chained, from the last one back

unfoldable pub bucket_of : ℕ → ℕ → ℕ
bucket_of s t = (t * 2654435761 / 16777216 + s) % 256

abbrev pub bucket_at : List ℕ → ℕ → ℕ
bucket_at h i = bucket_of (item_at h i).stream (item_at h i).entry.transaction

unfoldable pub in_bucket : List ℕ → ℕ → ℕ → Bool
in_bucket h b i = eqb (bucket_at h i) b

-- `next` holds, for each place below n, the last one before it in its bucket
abbrev pub Chained : List (Option ℕ) → List ℕ → ℕ → Type 0
Chained next h n = (i : ℕ) → i < n → one_past (get_or next i None) ≡ last_with (in_bucket h (bucket_at h i)) i

-- the chains of the first n places: `head` holds the last place of each bucket
pub record Indexed (h : List ℕ) (head next : List (Option ℕ)) (n : ℕ) : Type 0 where
  pub heads : (b : ℕ) → b < 256 → one_past (get_or head b None) ≡ last_with (in_bucket h b) n
  pub chained : Chained next h n

-- a walk over the first n places that stands at m has passed no place with the key, and m is of the bucket
pub record Walk (h : List ℕ) (s t n m : ℕ) : Type 0 where
  pub low : m ≤ n
  pub own : m ≡ last_with (in_bucket h (bucket_of s t)) m
  pub same : last_with (is_of h s t) n ≡ last_with (is_of h s t) m
