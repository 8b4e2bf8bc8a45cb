-- Numbers in a list of bytes, the lowest byte first.
use Rattle.std.specs.Prelude.{ℕ, ◌+◌, ◌*◌, ◌/◌, ◌%◌, List, [], ◌∷◌, get_or, set}

-- the number of two, and of four, bytes from an index on
unfoldable pub number16 : List ℕ → ℕ → ℕ
number16 l at = get_or l at 0 + 256 * get_or l (at + 1) 0

unfoldable pub number32 : List ℕ → ℕ → ℕ
number32 l at = get_or l at 0 + 256 * get_or l (at + 1) 0 + 65536 * get_or l (at + 2) 0 + 16777216 * get_or l (at + 3) 0

-- a list with a number written there
unfoldable pub with16 : List ℕ → ℕ → ℕ → List ℕ
with16 l at v = set (set l at (v % 256)) (at + 1) (v / 256)

unfoldable pub with32 : List ℕ → ℕ → ℕ → List ℕ
with32 l at v = set (set (set (set l at (v % 256)) (at + 1) (v / 256 % 256)) (at + 2) (v / 65536 % 256)) (at + 3) (v / 16777216)

-- the bytes of a number below 65,536, and of one below 4,294,967,296
unfoldable pub bytes16 : ℕ → List ℕ
bytes16 v = v % 256 ∷ v / 256 ∷ []

unfoldable pub bytes32 : ℕ → List ℕ
bytes32 v = v % 256 ∷ v / 256 % 256 ∷ v / 65536 % 256 ∷ v / 16777216 ∷ []
