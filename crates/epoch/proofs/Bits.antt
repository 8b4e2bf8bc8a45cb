-- The number made of bits: a turn of the loop that makes it, and its ones are as many as the bits that are set. Assumes nothing.
use Prim.Native.Nat.{ℕ, zero, suc, ◌+◌, ◌*◌, ◌^◌, ◌%◌, ◌≤◌, ◌<◌}
use mathlib.Core.Path.{◌≡◌, refl}
use mathlib.Core.Bool.{Bool, true, false}
use mathlib.Core.List.{List}
use native.Mathlib.Numerals.{add-one}
use native.Mathlib.Nat.{pow-suc}
use native.Mathlib.Omega.{arith}
use lib.Count.{ones, ones_cat}
use lib.Pow.{pow_mono}
use Rattle.std.specs.Int.Bits.{bit_or}
use Rattle.std.proofs.Math.Nat.{mod-eq_of_lt}
use Rattle.std.proofs.lemmas.Nat.{or_comm, or_shifted}
use lib.ListN.{drop}
use Rattle.wire.specs.Numbers.{number32}
use Rattle.model.specs.Lists.{sum_below, one, count_below, bits_of}
use Rattle.model.specs.Decoding.{counters_of}
use Rattle.lookback.proofs.Places.{number32_drop}

pub epoch_is : (s : List ℕ) (i : ℕ) → (counters_of (drop (i * 8) s)).epoch ≡ number32 s (i * 8 + 4)
unfolding counters_of
epoch_is s i = number32_drop (i * 8) s 4

one_times : (b : Bool) (w : ℕ) → one b * w ≤ w
one_times true w = omega arith
one_times false w = omega arith

pub bits_lt : (p : ℕ → Bool) (n : ℕ) → bits_of p n < 2 ^ n
unfolding bits_of
bits_lt p zero = omega arith
bits_lt p (suc n) = omega (arith, bits_lt p n, pow-suc 2 n, one_times (p n) (2 ^ n))

ones_one : (b : Bool) → ones (one b) ≡ one b
unfolding ones
ones_one true = refl
ones_one false = refl

pub ones_bits : (p : ℕ → Bool) (n : ℕ) → ones (bits_of p n) ≡ count_below p n
unfolding bits_of sum_below
ones_bits p zero = ones_one false
ones_bits p (suc n) = rw (ones_cat n (one (p n)) (bits_of p n) (bits_lt p n), ones_one, ones_bits p n) (omega arith)

pub count_le : (p : ℕ → Bool) (n : ℕ) → count_below p n ≤ n
unfolding sum_below
count_le p zero = omega arith
count_le p (suc n) = go (p n) (count_le p n)
  where
    go : (b : Bool) → count_below p n ≤ n → count_below p n + one b ≤ suc n
    go true l = omega arith
    go false l = omega arith

-- ---- a turn

module _ (p : ℕ → Bool) (i x : ℕ) (inv : x ≡ bits_of p i) where
  pub bits_hit : p i ≡ true → i < 8 → bit_or x (1 * 2 ^ i % 2 ^ 8) ≡ bits_of p (i + 1)
  unfolding bits_of
  bits_hit t h =
      let b : x < 2 ^ i = rw inv (bits_lt p i) in
      rw (mod-eq_of_lt {n = 1 * 2 ^ i} {m = 2 ^ 8} (omega (arith, pow_mono {i = suc i} {j = 8} h, pow-suc 2 i)), or_comm x (1 * 2 ^ i), or_shifted 1 i x b, add-one i, t) (omega arith)

  pub bits_miss : p i ≡ false → x ≡ bits_of p (i + 1)
  unfolding bits_of
  bits_miss t = rw (add-one i, t) (omega arith)
