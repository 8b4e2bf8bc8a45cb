-- The pieces of a stream, and what installing some of them asks for and leaves.
use Rattle.std.specs.Prelude.{ℕ, ◌+◌, ◌≤◌, ◌≡◌, List, length}
use Rattle.install.specs.declared.Sort.{Sort}
use Rattle.install.specs.declared.Stream.{Stream}
use Rattle.install.specs.declared.Output.{Output}
use Rattle.install.specs.Pieces.{piece_at, pieces_till, pieces_of, Installed}

-- of one sort, the piece at place i, and all of them
abbrev pub piece_in : Stream → Sort → ℕ → List ℕ
piece_in s sort i = piece_at s.snapshot.now.verdicts.now s.snapshot.now.linked.now.index.held.bytes.now s.fragment sort i

abbrev pub sort_in : Stream → Sort → List ℕ
sort_in s sort = pieces_till s.snapshot.now.verdicts.now s.snapshot.now.linked.now.index.held.bytes.now s.fragment sort s.snapshot.now.linked.now.index.held.count

-- of both sorts
abbrev pub pieces_in : Stream → List ℕ
pieces_in s = pieces_of s.snapshot.now.verdicts.now s.snapshot.now.linked.now.index.held.bytes.now s.snapshot.now.linked.now.index.held.count s.fragment

-- there is room for these pieces
pub record Room (is : List ℕ) (o : Output) : Type 0 where
  pub size : length o.records.now ≡ 5120
  pub long : 512 ≤ length o.list.now
  pub few : o.pieces + length is ≤ 256

-- it writes in the same records and the same list
pub record Same (o o' : Output) : Type 0 where
  pub records : o'.records.ghost_name ≡ o.records.ghost_name
  pub list : o'.list.ghost_name ≡ o.list.ghost_name

abbrev pub Installs : Stream → List ℕ → Output → Output → Type 0
Installs s is o o' = Installed s.snapshot.now.linked.now.index.held.bytes.now is s.fragment o.list.now o'.list.now o.records.now o'.records.now o.pieces o'.pieces
