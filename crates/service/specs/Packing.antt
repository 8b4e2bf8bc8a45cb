-- What the functions for C answer: one number of 64 bits, which packs the numbers of the call's answer.
use Rattle.std.specs.Prelude.{ℕ, ◌+◌, ◌*◌, ◌%◌, ◌≡◌}
use Rattle.model.specs.declared.Numbers.{Numbers}

-- bits 0-7 the number, bits 8-31 the first other number, bits 32-63 the second. Where they fit, the parts come back
-- (proofs/Packing.antt), and every answer of the calls fits: numbers go to 17, and the largest first number is an image's length,
-- at most 13,400 (answers-fit, numbers-come-back: crates/promises/proofs/Fitting.antt).
abbrev pub packed : Numbers → ℕ
packed n = n.number % 256 + 256 * (n.first % 16777216) + 4294967296 * n.second

-- r packs the numbers of an answer that the call owes
pub record Answered {A : Type 0} (numbers_of : A → Numbers) (Owed : A → Type 0) (r : ℕ) : Type 0 where
  pub answer : A
  pub owed : Owed answer
  pub packs : r ≡ packed (numbers_of answer)
