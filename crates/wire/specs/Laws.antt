-- Laws of little-endian numbers: what is put is got, a number elsewhere stays, the length stays. Assumes nothing.
use Prim.Native.Nat.{ℕ, ◌+◌, ◌/◌, ◌%◌, ◌<◌, ◌≤◌, ◌^◌}
use Rattle.std.specs.Prelude.{◌≡◌, ◌⊎◌, get_or}
use Rattle.std.proofs.Common.{inl, inr, ⊎_elim, get_or-set_same}
use mathlib.Core.List.{List}
use native.Mathlib.Omega.{arith}
use Rattle.std.proofs.Math.ListN.{length, set, length-set}
use Rattle.std.proofs.Math.Seq.{get_or-set_other}
use Rattle.wire.specs.Numbers.{number16, number32, with16, with32}

-- k is no index of the n bytes from index at
pub Off : ℕ → ℕ → ℕ → Type 0
Off at n k = (k < at) ⊎ (at + n ≤ k)

-- an index off those bytes is none of them
off : (at n k : ℕ) → Off at n k → (i : ℕ) → i < n → k ≡ at + i → ⊥
unfolding Off
off at n k o i h e = ⊎_elim (λ a. omega arith) (λ a. omega arith) o

module _ (l : List ℕ) (at v : ℕ) where
  pub length_put16 : length (with16 l at v) ≡ length l
  unfolding with16
  length_put16 = simp length-set

  pub length_put32 : length (with32 l at v) ≡ length l
  unfolding with32
  length_put32 = simp length-set

  pub put16_off : (k : ℕ) → Off at 2 k → get_or (with16 l at v) k 0 ≡ get_or l k 0
  unfolding with16
  put16_off k o =
      let n0 : k ≡ at → ⊥ = λ e. off at 2 k o 0 (omega arith) (omega arith) in
      let n1 : k ≡ at + 1 → ⊥ = off at 2 k o 1 (omega arith) in
      simp get_or-set_other

  pub put32_off : (k : ℕ) → Off at 4 k → get_or (with32 l at v) k 0 ≡ get_or l k 0
  unfolding with32
  put32_off k o =
      let n0 : k ≡ at → ⊥ = λ e. off at 4 k o 0 (omega arith) (omega arith) in
      let n1 : k ≡ at + 1 → ⊥ = off at 4 k o 1 (omega arith) in
      let n2 : k ≡ at + 2 → ⊥ = off at 4 k o 2 (omega arith) in
      let n3 : k ≡ at + 3 → ⊥ = off at 4 k o 3 (omega arith) in
      simp get_or-set_other

  pub get16_put16 : at + 2 ≤ length l → v < 2 ^ 16 → number16 (with16 l at v) at ≡ v
  unfolding with16 number16
  get16_put16 h b =
      let h0 : at < length l = omega arith in
      let h1 : at + 1 < length (set l at (v % 256)) = simp length-set (omega arith) in
      let a1 : at ≡ at + 1 → ⊥ = λ e. omega arith in
      simp (get_or-set_same, get_or-set_other) (omega arith)

  pub get32_put32 : at + 4 ≤ length l → v < 2 ^ 32 → number32 (with32 l at v) at ≡ v
  unfolding with32 number32
  get32_put32 h b =
      let l1 : List ℕ = set l at (v % 256) in
      let l2 : List ℕ = set l1 (at + 1) (v / 256 % 256) in
      let l3 : List ℕ = set l2 (at + 2) (v / 65536 % 256) in
      let h0 : at < length l = omega arith in
      let h1 : at + 1 < length l1 = simp length-set (omega arith) in
      let h2 : at + 2 < length l2 = simp length-set (omega arith) in
      let h3 : at + 3 < length l3 = simp length-set (omega arith) in
      let a1 : at ≡ at + 1 → ⊥ = λ e. omega arith in
      let a2 : at ≡ at + 2 → ⊥ = λ e. omega arith in
      let a3 : at ≡ at + 3 → ⊥ = λ e. omega arith in
      let b2 : at + 1 ≡ at + 2 → ⊥ = λ e. omega arith in
      let b3 : at + 1 ≡ at + 3 → ⊥ = λ e. omega arith in
      let c3 : at + 2 ≡ at + 3 → ⊥ = λ e. omega arith in
      simp (get_or-set_same, get_or-set_other) (omega arith)

-- lists that agree on the n bytes from index at
unfoldable pub Same : List ℕ → List ℕ → ℕ → ℕ → Type 0
Same l m at n = (k : ℕ) → at ≤ k → k < at + n → get_or l k 0 ≡ get_or m k 0

pub le16_same : (l m : List ℕ) (at : ℕ) → Same l m at 2 → number16 l at ≡ number16 m at
unfolding Same number16
le16_same l m at f = cc (f at (omega arith) (omega arith), f (at + 1) (omega arith) (omega arith))

pub le32_same : (l m : List ℕ) (at : ℕ) → Same l m at 4 → number32 l at ≡ number32 m at
unfolding Same number32
le32_same l m at f =
    cc (f at (omega arith) (omega arith), f (at + 1) (omega arith) (omega arith), f (at + 2) (omega arith) (omega arith), f (at + 3) (omega arith) (omega arith))

-- a put of 4 bytes leaves every number off them: the rest of the law is `le32_same`
pub put32_same : (l : List ℕ) (at v j n : ℕ) → (j + n ≤ at) ⊎ (at + 4 ≤ j) → Same (with32 l at v) l j n
unfolding Same Off
put32_same l at v j n o k lo hi = put32_off l at v k (⊎_elim (λ a. inl (omega arith)) (λ a. inr (omega arith)) o)

pub put16_same : (l : List ℕ) (at v j n : ℕ) → (j + n ≤ at) ⊎ (at + 2 ≤ j) → Same (with16 l at v) l j n
unfolding Same Off
put16_same l at v j n o k lo hi = put16_off l at v k (⊎_elim (λ a. inl (omega arith)) (λ a. inr (omega arith)) o)
