-- The bytes of one lot: 10,320, in four sections.
use Rattle.std.specs.Prelude.{ℕ, List, [], ◌∷◌, take, drop}

abbrev pub SIZE : ℕ
SIZE = 10320

-- bytes 0-15 the head, 16-79 eight streams, 80-5,199 the 256 places, 5,200-10,319 the records
abbrev pub head_of : List ℕ → List ℕ
head_of l = take 16 l

abbrev pub streams_of : List ℕ → List ℕ
streams_of l = take 64 (drop 16 l)

abbrev pub places_of : List ℕ → List ℕ
places_of l = take 5120 (drop 80 l)

abbrev pub records_of : List ℕ → List ℕ
records_of l = drop 5200 l

-- the tag of a free lot and of an open one: "FREE", "OPEN"
abbrev pub FREE : List ℕ
FREE = 0x46 ∷ 0x52 ∷ 0x45 ∷ 0x45 ∷ []

abbrev pub OPEN : List ℕ
OPEN = 0x4f ∷ 0x50 ∷ 0x45 ∷ 0x4e ∷ []
