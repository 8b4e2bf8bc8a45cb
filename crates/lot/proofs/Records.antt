-- Each record after one is put or deleted. Assumes nothing.
use Prim.Native.Nat.{ℕ, ◌+◌, ◌*◌, ◌-◌, ◌≤◌, ◌<◌, ◌^◌}
use mathlib.Core.Path.{◌≡◌, ◌∙◌}
use mathlib.Core.Logic.{◌⊎◌, inl, inr, ⊎_elim}
use mathlib.Core.List.{List}
use native.Mathlib.Omega.{arith}
use native.Mathlib.Nat.{eq-zero-or-pos}
use lib.ListN.{length, get_or, set, length-set}
use lib.Seq.{get_or-set_same, get_or-set_other}
use Rattle.wire.specs.Numbers.{with32}
use Rattle.wire.specs.Laws.{Same, length_put32, get32_put32, put32_same, le32_same}
use Rattle.model.specs.Account.{absent, present}
use Rattle.lot.specs.View.{record_at}
use Rattle.lot.specs.Writing.{with_record, without_record}

-- lists that agree on the five bytes of a record show the same one
same_record : (r q : List ℕ) (j l : ℕ) → Same r q ((j * 128 + l) * 5) 5 → record_at r j l ≡ record_at q j l
unfolding Same record_at
same_record r q j l f =
    let b = (j * 128 + l) * 5 in
    rw (f b (omega arith) (omega arith), le32_same r q (b + 1) (λ x lo hi. f x (omega arith) (omega arith)))

module _ (r : List ℕ) (i k : ℕ) where
  pub length_record : (v : ℕ) → length (with_record r i k v) ≡ length r
  unfolding with_record
  length_record v = simp (length_put32, length-set)

  pub length_no_record : length (without_record r i k) ≡ length r
  unfolding without_record
  length_no_record = simp length-set

  module _ (room : (i * 128 + k) * 5 + 5 ≤ length r) where
    pub put_own : (v : ℕ) → v < 2 ^ 32 → record_at (with_record r i k v) i k ≡ present v
    unfolding with_record record_at Same
    put_own v small =
        let a = (i * 128 + k) * 5 in
        let s = set r a 1 in
        let ls = length-set r a 1 in
        let p : get_or (with32 s (a + 1) v) a 0 ≡ 1 = put32_same s (a + 1) v a 1 (inl (omega arith)) a (omega arith) (omega arith) ∙ get_or-set_same r a 1 0 (omega arith) in
        rw (p, get32_put32 s (a + 1) v (omega arith) small)

    pub delete_own : record_at (without_record r i k) i k ≡ absent
    unfolding without_record record_at
    delete_own = rw (get_or-set_same r ((i * 128 + k) * 5) 0 0 (omega arith))

  module _ (small : k < 128) (j l : ℕ) (low : l < 128) (ne : i ≡ j → k ≡ l → ⊥) where
    apart : (j * 128 + l < i * 128 + k) ⊎ (i * 128 + k < j * 128 + l)
    apart =
        ⊎_elim
        (λ e. inr (⊎_elim (λ f. absurd (ne (omega arith) (omega arith))) (λ f. omega arith) (eq-zero-or-pos ((j * 128 + l) - (i * 128 + k)))))
        (λ e. inl (omega arith))
        (eq-zero-or-pos ((i * 128 + k) - (j * 128 + l)))

    first_byte : (x : ℕ) → Same (set r ((i * 128 + k) * 5) x) r ((j * 128 + l) * 5) 5
    unfolding Same
    first_byte x n lo hi = get_or-set_other r ((i * 128 + k) * 5) n x 0 (λ e. ⊎_elim (λ q. omega arith) (λ q. omega arith) apart)

    pub put_other : (v : ℕ) → record_at (with_record r i k v) j l ≡ record_at r j l
    unfolding with_record Same
    put_other v =
        let a = (i * 128 + k) * 5 in
        let b = (j * 128 + l) * 5 in
        same_record (with_record r i k v) r j l (λ n lo hi.
        put32_same (set r a 1) (a + 1) v b 5 (⊎_elim (λ q. inl (omega arith)) (λ q. inr (omega arith)) apart) n lo hi ∙ first_byte 1 n lo hi)

    pub delete_other : record_at (without_record r i k) j l ≡ record_at r j l
    unfolding without_record
    delete_other = same_record (without_record r i k) r j l (first_byte 0)
