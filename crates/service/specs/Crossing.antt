-- Lists that cross as bytes: close's list as 4 bytes a number, little-endian, and an overview row as four such numbers.
use Rattle.std.specs.Prelude.{ℕ, ◌<◌, ◌≡◌, List, ◌++◌, length, Result}
use Rattle.wire.specs.Numbers.{bytes32}
use Rattle.model.specs.Image.{each}
use Rattle.model.specs.declared.Refusal.{Refusal}
use Rattle.overview.specs.Overview.{Overviewed}
use Rattle.standby.specs.Closing.{EpochClosed}
use Rattle.overview.specs.declared.Row.{Row}

-- The lent bytes b are the list, `size` bytes for each of it, and then odd bytes, too few for one more. The call does with
-- the list what it owes, and the bytes b' left are the list then, and the same odd bytes.
pub record Crossing {X : Type 0} (bytes_of : X → List ℕ) (size : ℕ) (Owed : List X → List X → Type 0) (b b' : List ℕ) : Type 0 where
  pub list : List X
  pub list' : List X
  pub odd : List ℕ
  pub few : length odd < size
  pub lent : b ≡ each bytes_of list ++ odd
  pub owed : Owed list list'
  pub left : b' ≡ each bytes_of list' ++ odd

unfoldable pub row16 : Row → List ℕ
row16 r = bytes32 r.account ++ (bytes32 r.closed ++ (bytes32 r.held ++ bytes32 r.damaged))

abbrev pub ListClosed : List ℕ → List ℕ → ℕ → ℕ → ℕ → List ℕ → List ℕ → Result ℕ Refusal → Type 0
ListClosed m m' lots lot number b b' r = Crossing bytes32 4 (λ list list'. EpochClosed m m' lots lot number list list' r) b b'

abbrev pub RowsFilled : List ℕ → ℕ → List ℕ → List ℕ → Result (Unit {0}) Refusal → Type 0
RowsFilled m lots b b' r = Crossing row16 16 (λ rows rows'. Overviewed m lots rows rows' r) b b'
