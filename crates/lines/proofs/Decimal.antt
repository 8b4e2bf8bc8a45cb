-- The decimal text of a number of 64 bits is what std prints of it: that of its tenth and then its last digit, at most 20 digits. Assumes nothing.
use Prim.Native.Nat.{ℕ, zero, suc, ◌+◌, ◌/◌, ◌%◌, ◌^◌, ◌<◌, ◌≤◌}
use mathlib.Core.Path.{◌≡◌, sym, ap, ◌∙◌}
use mathlib.Core.Bool.{Bool, true, false}
use mathlib.Core.List.{List, [], ◌∷◌, ◌++◌}
use native.Mathlib.Omega.{arith}
use lib.Dec.{ltb}
use lib.ListN.{length, length-append}
use borrow.Author.Tests.{lt-ltb, le-ltb}
use Rattle.std.proofs.lemmas.Fmt.{AppendsLastDigit, decimal_from_appends, length-decimal-le}
use Rattle.std.specs.Fmt.{decimal as std_decimal}
use Rattle.std.specs.Prelude.{if◌then◌else◌}
use Rattle.lines.specs.Text.{last_digit, digits, decimal}

by_last_digit : AppendsLastDigit digits
unfolding digits
by_last_digit = record {
  one = λ k n h. let e : n % 10 ≡ n = omega arith in rw (lt-ltb n 10 h, e);
  more = λ k n h. rw (le-ltb n 10 h);
}

pub decimal_of_std : (n : ℕ) → n < 2 ^ 64 → std_decimal n ≡ decimal n
unfolding decimal
decimal_of_std n fits = sym (decimal_from_appends digits by_last_digit 20 n fits (length-decimal-le 20 n (omega arith) (omega arith) fits))

-- room for one digit more changes nothing where the digits have room
enough : (most n : ℕ) → n < 10 ^ suc most → digits (suc most) n ≡ digits (suc (suc most)) n
unfolding digits
enough zero n h = let lt : n < 10 = omega arith in rw (lt-ltb n 10 lt)
enough (suc most) n h = ap (λ (r : List ℕ). (if ltb n 10 then [] else r) ++ last_digit n ∷ []) (enough most (n / 10) (omega arith))

pub decimal_short : (n : ℕ) → n < 10 → decimal n ≡ last_digit n ∷ []
unfolding decimal digits
decimal_short n h = rw (lt-ltb n 10 h)

pub decimal_long : (n : ℕ) → n < 2 ^ 64 → 10 ≤ n → decimal n ≡ decimal (n / 10) ++ last_digit n ∷ []
unfolding decimal digits
decimal_long n fits h = rw (le-ltb n 10 h, enough 18 (n / 10) (omega arith))

digits_few : (most n : ℕ) → length (digits most n) ≤ most
unfolding digits
digits_few zero n = omega arith
digits_few (suc most) n = few (ltb n 10) (digits_few most (n / 10))
  where
    few : (b : Bool) → length (digits most (n / 10)) ≤ most → length ((if b then [] else digits most (n / 10)) ++ last_digit n ∷ []) ≤ suc most
    few true h = omega arith
    few false h = rw length-append (omega arith)

pub decimal_few : (n : ℕ) → length (decimal n) ≤ 20
unfolding decimal
decimal_few n = digits_few 20 n

-- how many digits that are
pub length_short : (n : ℕ) → n < 10 → length (decimal n) ≡ 1
length_short n h = ap length (decimal_short n h)

pub length_long : (n : ℕ) → n < 2 ^ 64 → 10 ≤ n → length (decimal n) ≡ length (decimal (n / 10)) + 1
length_long n fits h = ap length (decimal_long n fits h) ∙ length-append (decimal (n / 10)) (last_digit n ∷ [])
