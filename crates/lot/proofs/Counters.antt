-- The counters of each stream after those of one are written. Assumes nothing.
use Prim.Native.Nat.{ℕ, ◌+◌, ◌*◌, ◌-◌, ◌≤◌, ◌<◌, ◌^◌}
use mathlib.Core.Path.{◌≡◌, sym, ◌∙◌}
use mathlib.Core.Logic.{◌⊎◌, inl, inr, ⊎_elim}
use mathlib.Core.List.{List}
use native.Mathlib.Omega.{arith}
use native.Mathlib.Nat.{eq-zero-or-pos}
use lib.ListN.{length, drop}
use Rattle.wire.specs.Numbers.{number16, number32, with16}
use Rattle.wire.specs.Laws.{Same, length_put16, length_put32, get16_put16, get32_put32, put16_same, put32_same, le16_same, le32_same}
use Rattle.model.specs.Decoding.{counters_of}
use Rattle.model.specs.declared.Counters.{Counters}
use Rattle.lookback.proofs.Places.{number16_drop, number32_drop}
use Rattle.lot.specs.Writing.{with_counters}

-- ---- read where they stand

pub counters_at_law : (s : List ℕ) (n : ℕ) → counters_of (drop n s) ≡ record { next = number16 s n; epoch = number32 s (n + 4) }
unfolding counters_of
counters_at_law s n = let z : n + 0 ≡ n = omega arith in rw (number16_drop n s 0, number32_drop n s 4, z)

-- ---- after a write

module _ (s : List ℕ) (i : ℕ) (c : Counters) where
  pub length_counters : length (with_counters s i c) ≡ length s
  unfolding with_counters
  length_counters = simp (length_put32, length_put16)

  -- w bytes from j that stand apart from stream i stay
  apart : (j w : ℕ) → (j + w ≤ i * 8) ⊎ (i * 8 + 8 ≤ j) → Same (with_counters s i c) s j w
  unfolding Same with_counters
  apart j w o k lo hi =
      let x = with16 s (i * 8) c.next in
      let y = with16 x (i * 8 + 2) 0 in
      put32_same y (i * 8 + 4) c.epoch j w (⊎_elim (λ q. inl (omega arith)) (λ q. inr (omega arith)) o) k lo hi
      ∙ put16_same x (i * 8 + 2) 0 j w (⊎_elim (λ q. inl (omega arith)) (λ q. inr (omega arith)) o) k lo hi
      ∙ put16_same s (i * 8) c.next j w (⊎_elim (λ q. inl (omega arith)) (λ q. inr (omega arith)) o) k lo hi

  module _ (room : i * 8 + 8 ≤ length s) where
    pub counters_own : c.next < 2 ^ 16 → c.epoch < 2 ^ 32 → counters_of (drop (i * 8) (with_counters s i c)) ≡ c
    unfolding with_counters
    counters_own a b =
        let x = with16 s (i * 8) c.next in
        let y = with16 x (i * 8 + 2) 0 in
        let t = with_counters s i c in
        let lx = length_put16 s (i * 8) c.next in
        let ly = length_put16 x (i * 8 + 2) 0 in
        let next : number16 t (i * 8) ≡ c.next =
        le16_same t y (i * 8) (put32_same y (i * 8 + 4) c.epoch (i * 8) 2 (inl (omega arith)))
        ∙ le16_same y x (i * 8) (put16_same x (i * 8 + 2) 0 (i * 8) 2 (inl (omega arith)))
        ∙ get16_put16 s (i * 8) c.next (omega arith) a in
        let epoch : number32 t (i * 8 + 4) ≡ c.epoch = get32_put32 y (i * 8 + 4) c.epoch (omega arith) b in
        counters_at_law t (i * 8) ∙ λ q. record { next = next q; epoch = epoch q }

    -- the two zero bytes
    pub zeros_own : number16 (with_counters s i c) (i * 8 + 2) ≡ 0
    unfolding with_counters
    zeros_own =
        let x = with16 s (i * 8) c.next in
        let y = with16 x (i * 8 + 2) 0 in
        le16_same (with_counters s i c) y (i * 8 + 2) (put32_same y (i * 8 + 4) c.epoch (i * 8 + 2) 2 (inl (omega arith)))
        ∙ get16_put16 x (i * 8 + 2) 0 (omega (arith, length_put16 s (i * 8) c.next)) (omega arith)

  module _ (j : ℕ) (ne : i ≡ j → ⊥) where
    away : (j * 8 + 8 ≤ i * 8) ⊎ (i * 8 + 8 ≤ j * 8)
    away = ⊎_elim (λ e. inl (omega arith)) (λ e. inr (omega arith)) (eq-zero-or-pos (j - i))

    pub counters_other : counters_of (drop (j * 8) (with_counters s i c)) ≡ counters_of (drop (j * 8) s)
    counters_other =
        let t = with_counters s i c in
        counters_at_law t (j * 8)
        ∙ rw (
          le16_same t s (j * 8) (apart (j * 8) 2 (⊎_elim (λ e. inl (omega arith)) (λ e. inr (omega arith)) away)),
          le32_same t s (j * 8 + 4) (apart (j * 8 + 4) 4 (⊎_elim (λ e. inl (omega arith)) (λ e. inr (omega arith)) away)),
        )
        (sym (counters_at_law s (j * 8)))

    pub zeros_other : number16 (with_counters s i c) (j * 8 + 2) ≡ number16 s (j * 8 + 2)
    zeros_other = le16_same (with_counters s i c) s (j * 8 + 2) (apart (j * 8 + 2) 2 (⊎_elim (λ e. inl (omega arith)) (λ e. inr (omega arith)) away))
