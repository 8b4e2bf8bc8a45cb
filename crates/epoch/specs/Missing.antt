-- The streams that have not taken the mark of the next epoch to close, from the counters in a streams section.
use Rattle.std.specs.Prelude.{ℕ, suc, ◌*◌, ◌≡◌, Bool, List, leb, eqb, drop, Result, Ok, Err, if◌then◌else◌}
use Rattle.model.specs.Lists.{bits_of, count_below}
use Rattle.model.specs.Decoding.{counters_of}
use Rattle.model.specs.declared.Refusal.{Refusal}
use Rattle.model.specs.declared.Refusal.TheVariants.{MarkMissing}

-- stream i has not taken mark c + 1 (c: the closed epoch): the epoch open there is not above it
unfoldable pub missing_in : List ℕ → ℕ → ℕ → Bool
missing_in s c i = leb (counters_of (drop (i * 8) s)).epoch (suc c)

-- r is an Ok where none of f streams is missing, else refusal 12 with the byte, bit i for stream i, and how many they are
abbrev pub MissingMarks : List ℕ → ℕ → ℕ → Result (Unit {0}) Refusal → Type 0
MissingMarks s c f r = let p = missing_in s c in r ≡ (if eqb (count_below p f) 0 then Ok tt else Err (MarkMissing (bits_of p f) (count_below p f)))
