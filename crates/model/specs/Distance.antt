-- The signed distance of sequence numbers.
use Rattle.std.specs.Prelude.{ℕ, zero, suc, ◌+◌, ◌-◌, ◌%◌, Bool, true, false, ltb, ℤ, pos, negsuc, if◌then◌else◌}

-- the received number less the expected one, modulo 65,536
abbrev pub difference : ℕ → ℕ → ℕ
difference received expected = (received + 65536 - expected) % 65536

-- from -32,768 to 32,767 (`negsuc n` is -1 - n)
unfoldable pub distance : ℕ → ℕ → ℤ
distance received expected =
    if ltb (difference received expected) 32768 then pos (difference received expected)
    else negsuc (65535 - difference received expected)

-- zero is due; below zero has been seen; above zero is a gap
abbrev pub below_zero : ℤ → Bool
below_zero (pos n) = false
below_zero (negsuc n) = true

abbrev pub above_zero : ℤ → Bool
above_zero (pos zero) = false
above_zero (pos (suc n)) = true
above_zero (negsuc n) = false

-- ---- the number after 65,535 is 0
abbrev pub after : ℕ → ℕ
after next = (next + 1) % 65536
