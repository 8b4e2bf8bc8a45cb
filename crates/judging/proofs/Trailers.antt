-- A trailer is written as it is read, and read as it is written; that of the model's image is written from its numbers. Assumes nothing.
use Prim.Native.Nat.{ℕ, ◌+◌, ◌*◌, ◌/◌, ◌%◌}
use mathlib.Core.Path.{◌≡◌, refl, sym, ◌∙◌}
use mathlib.Core.Bool.{true}
use mathlib.Core.List.{List, ◌++◌}
use native.Mathlib.Omega.{arith}
use lib.ListN.{length, get_or, take, drop}
use lib.Seq.{take-add, take_all}
use Rattle.wire.specs.Numbers.{number16, number32, bytes16, bytes32}
use Rattle.model.specs.Image.{Form, signature, trailer24}
use Rattle.model.specs.Decoding.{same}
use Rattle.model.proofs.Image.{same_true}
use Rattle.trailer.specs.Trailer.{numbers_of, count_bytes, trailer_bytes, signed}
use Rattle.trailer.specs.declared.Trailer.{Trailer}
use Rattle.judging.proofs.Parts.{Bytes, cells, take_cells, sixteen, thirty_two, zeros}

-- the numbers of what an image of n bytes shows
abbrev pub form_numbers : Form → ℕ → Trailer
form_numbers x n = record {
  account = record { number = x.number; fragments = length x.streams; keys = x.keys; held = length x.held; closed = x.closed };
  records = length x.records;
  length = n;
}

pub trailer_is : (x : Form) (n : ℕ) → trailer24 x n ≡ trailer_bytes (form_numbers x n)
unfolding trailer24 trailer_bytes count_bytes bytes16 bytes32
trailer_is x n = refl

pub numbers_back : (t : Trailer) → numbers_of (trailer_bytes t) ≡ t
unfolding numbers_of trailer_bytes count_bytes bytes16 bytes32 number16 number32
numbers_back t = λ i. record {
  account = record { number = two t.account.number i; fragments = t.account.fragments; keys = two t.account.keys i; held = two t.account.held i; closed = four t.account.closed i };
  records = two t.records i;
  length = four t.length i;
}
  where
    two : (v : ℕ) → v % 256 + 256 * (v / 256) ≡ v
    two v = omega arith

    four : (v : ℕ) → v % 256 + 256 * (v / 256 % 256) + 65536 * (v / 65536 % 256) + 16777216 * (v / 16777216) ≡ v
    four v = omega arith

pub trailer_signed : (t : Trailer) → signed (trailer_bytes t) ≡ true
unfolding signed trailer_bytes count_bytes bytes16 bytes32 same
trailer_signed t = refl

pub trailer_zeros : (t : Trailer) → (get_or (trailer_bytes t) 3 0 ≡ 0) × (number16 (trailer_bytes t) 10 ≡ 0)
unfolding trailer_bytes count_bytes bytes16 number16
trailer_zeros t = (refl, refl)

module _ (m : List ℕ) (b : Bytes m) where
  bytes_cells : get_or m 3 0 ≡ 0 → number16 m 10 ≡ 0 → trailer_bytes (numbers_of m) ≡ cells 20 0 m ++ signature
  unfolding numbers_of trailer_bytes count_bytes cells
  bytes_cells z3 z10 = rw (sixteen m b 0, sixteen m b 4, sixteen m b 6, sixteen m b 8, thirty_two m b 12, thirty_two m b 16, z3, (zeros m b 10 z10).0, (zeros m b 10 z10).1)

  pub bytes_back : length m ≡ 24 → signed m ≡ true → get_or m 3 0 ≡ 0 → number16 m 10 ≡ 0 → trailer_bytes (numbers_of m) ≡ m
  unfolding signed
  bytes_back len s z3 z10 =
      let q : cells 20 0 m ≡ take 20 m = sym (take_cells 20 0 m (omega arith)) in
      let r : signature ≡ take 4 (drop 20 m) = sym (same_true (take 4 (drop 20 m)) signature s) in
      bytes_cells z3 z10 ∙ rw (q, r) (sym (take-add 20 4 m) ∙ take_all 24 m (omega arith))
