-- The lines that the program prints, by the page. Each ends with a line feed.
use Rattle.std.specs.Prelude.{ℕ, List, [], ◌∷◌, ◌++◌}
use Rattle.lines.specs.Text.{decimal}

-- "epoch"
abbrev pub EPOCH : List ℕ
EPOCH = 101 ∷ 112 ∷ 111 ∷ 99 ∷ 104 ∷ []

-- " pieces"
abbrev pub PIECES : List ℕ
PIECES = 32 ∷ 112 ∷ 105 ∷ 101 ∷ 99 ∷ 101 ∷ 115 ∷ []

-- "piece"
abbrev pub PIECE : List ℕ
PIECE = 112 ∷ 105 ∷ 101 ∷ 99 ∷ 101 ∷ []

-- "record"
abbrev pub RECORD : List ℕ
RECORD = 114 ∷ 101 ∷ 99 ∷ 111 ∷ 114 ∷ 100 ∷ []

-- "held"
abbrev pub HELD : List ℕ
HELD = 104 ∷ 101 ∷ 108 ∷ 100 ∷ []

-- "entry"
abbrev pub ENTRY : List ℕ
ENTRY = 101 ∷ 110 ∷ 116 ∷ 114 ∷ 121 ∷ []

-- " refused"
abbrev pub REFUSED : List ℕ
REFUSED = 32 ∷ 114 ∷ 101 ∷ 102 ∷ 117 ∷ 115 ∷ 101 ∷ 100 ∷ []

-- "open refused"
abbrev pub OPEN_REFUSED : List ℕ
OPEN_REFUSED = 111 ∷ 112 ∷ 101 ∷ 110 ∷ 32 ∷ 114 ∷ 101 ∷ 102 ∷ 117 ∷ 115 ∷ 101 ∷ 100 ∷ []

-- a space and a number
abbrev pub number : ℕ → List ℕ
number n = 32 ∷ decimal n

-- the last number of a line
abbrev pub last : ℕ → List ℕ
last n = number n ++ 10 ∷ []

-- a closed epoch and the count of its pieces
unfoldable pub epoch_line : ℕ → ℕ → List ℕ
epoch_line epoch pieces = EPOCH ++ number epoch ++ PIECES ++ last pieces

-- a piece: fragment, transaction
unfoldable pub piece_line : ℕ → ℕ → List ℕ
piece_line fragment transaction = PIECE ++ number fragment ++ last transaction

-- a present record: fragment, key, value
unfoldable pub record_line : ℕ → ℕ → ℕ → List ℕ
record_line fragment key value = RECORD ++ number fragment ++ number key ++ last value

-- the held count
unfoldable pub held_line : ℕ → List ℕ
held_line held = HELD ++ last held

-- a refused entry: which one, from 0, and the refusal's number
unfoldable pub entry_line : ℕ → ℕ → List ℕ
entry_line index refusal = ENTRY ++ number index ++ REFUSED ++ last refusal

-- a refused header: the refusal's number
unfoldable pub open_line : ℕ → List ℕ
open_line refusal = OPEN_REFUSED ++ last refusal
