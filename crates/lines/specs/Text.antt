-- Text is a list of ASCII codes. The decimal text of a number.
use Rattle.std.specs.Prelude.{ℕ, zero, suc, ◌+◌, ◌/◌, ◌%◌, List, [], ◌∷◌, ◌++◌, ltb, if◌then◌else◌}

-- the ASCII code of the last digit of n
abbrev pub last_digit : ℕ → ℕ
last_digit n = 48 + n % 10

-- the decimal digits of n, the most significant first, where they are at most `most`
unfoldable pub digits : ℕ → ℕ → List ℕ
digits zero n = []
digits (suc most) n = (if ltb n 10 then [] else digits most (n / 10)) ++ last_digit n ∷ []

-- a number of 64 bits has at most 20 digits
unfoldable pub decimal : ℕ → List ℕ
decimal n = digits 20 n
