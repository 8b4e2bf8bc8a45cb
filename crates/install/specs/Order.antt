-- The places of a transaction in its stream, in their order.
use Rattle.std.specs.Prelude.{Option, Some, None, ℕ, suc, ◌<◌, ◌≤◌, ◌≡◌, Bool, true, List, get_or}
use Rattle.std.proofs.Props.{props}
use Rattle.model.specs.Section.{item_at}
use Rattle.lookback.specs.Last.{last_with, is_of, last_before}

-- place j is of the stream and transaction of place i
abbrev pub own_of : List ℕ → ℕ → ℕ → Bool
own_of h i = is_of h (item_at h i).stream (item_at h i).entry.transaction

-- `next` holds, for each place, the next place of its stream and transaction among n
unfoldable pub Nexts : List (Option ℕ) → List ℕ → ℕ → Type 0
Nexts next h n = (i : ℕ) → i < n → (before : ℕ) → last_before h i ≡ suc before → get_or next before None ≡ Some i

-- the first place of the stream and transaction of place i
pub record First (h : List ℕ) (i first : ℕ) : Type 0 where
  pub low : first ≤ i
  pub own : own_of h i first ≡ true
  pub none_before : last_with (own_of h i) first ≡ 0

-- the first m of n places are those of the streams below s
pub record StreamsBelow (h : List ℕ) (n s m : ℕ) : Type 0 where
  pub low : m ≤ n
  pub these : (i : ℕ) → i < m → (item_at h i).stream < s
  pub rest : (i : ℕ) → m ≤ i → i < n → s ≤ (item_at h i).stream

-- two proofs of it are equal
pub Nexts-prop : (next : List (Option ℕ)) (h : List ℕ) (n : ℕ) → IsProp (Nexts next h n)
unfolding Nexts
Nexts-prop next h n = hlevel props
