-- What the verdicts rest on: the order of the places in a held section that fits.
use Rattle.std.specs.Prelude.{ℕ, suc, ◌<◌, ◌≤◌, ◌≡◌, true, List}
use Rattle.model.specs.Entry.{DELETE, P}
use Rattle.model.specs.Account.{key, coordinator}
use Rattle.model.specs.Stages.{takes}
use Rattle.held.specs.Place.{may_follow}
use Rattle.model.specs.Section.{item_at}
use Rattle.lookback.specs.Places.{stage_at}
use Rattle.lookback.specs.Last.{last_before}

-- of the first n places of h
pub record Orderly (h : List ℕ) (n : ℕ) : Type 0 where
  -- each transaction's entries in the order of the table
  pub taken : (i : ℕ) → i < n → takes (item_at h i).entry.kind (stage_at h (last_before h i)) ≡ true
  -- by stream, then epoch
  pub rising : (i : ℕ) → suc i < n → may_follow (item_at h i) (item_at h (suc i)) ≡ true
  -- fragments, keys and coordinators within an account
  pub streams : (i : ℕ) → i < n → (item_at h i).stream < 8
  pub keys : (i : ℕ) → i < n → (item_at h i).entry.kind ≤ DELETE → key (item_at h i).entry < 128
  pub coordinators : (i : ℕ) → i < n → (item_at h i).entry.kind ≡ P → coordinator (item_at h i).entry < 8
