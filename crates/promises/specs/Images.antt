-- What saves wrote and reads are answered, in terms of an account; and what is supposed between a load and a save.
use Rattle.std.specs.Prelude.{ℕ, ◌<◌, ◌≡◌, List, [], length, take, Some}
use Rattle.model.specs.Account.{Account, Record}
use Rattle.model.specs.Image.{image}
use Rattle.model.specs.Decoding.{load}
use Rattle.promises.specs.Runs.{Turn, Run}
use Rattle.promises.specs.Own.{Kept}
use Rattle.promises.specs.Followed.{steps_in}

-- the first n bytes of a buffer are the image of a
pub record ImageOf (a : Account) (n : ℕ) (buffer : List ℕ) : Type 0 where
  pub long : n ≡ length (image a)
  pub bytes : take n buffer ≡ image a

-- two saves answered n₁ and n₂ wrote the same image
pub record SameImage (n₁ n₂ : ℕ) (buffer₁ buffer₂ : List ℕ) : Type 0 where
  pub long : n₁ ≡ n₂
  pub bytes : take n₁ buffer₁ ≡ take n₂ buffer₂

-- x is the record of fragment i and this key
pub record RecordOf (a : Account) (i k : ℕ) (x : Record) : Type 0 where
  pub in_fragments : i < a.fragments
  pub in_keys : k < a.keys
  pub value : x ≡ (a.at i).records k

-- ---- load, then save

-- since these data were loaded into lot i: the account that they show has this number, and in the run since no start and no drop of it there was done, none of its entries was accepted and no epoch closed
pub record KeptSinceLoad (number i : ℕ) (given m' : List ℕ) (ts : List Turn) (m₂ : List ℕ) : Type 0 where
  pub numbered : (a : Account) → load given ≡ Some a → a.number ≡ number
  pub runs : Run m' ts m₂
  pub kept : Kept number i ts
  pub nothing_done : steps_in number i ts ≡ []
