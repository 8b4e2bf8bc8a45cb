-- The places of a stream stand together, and its pieces are among them. Assumes nothing.
use Prim.Native.Nat.{ℕ, zero, suc, ◌+◌, ◌≤◌, ◌<◌}
use mathlib.Core.Path.{◌≡◌, refl}
use Rattle.std.specs.Prelude.{Option}
use Rattle.verdicts.specs.declared.Verdict.{Verdict}
use Rattle.install.specs.declared.Sort.{Sort}
use mathlib.Core.Bool.{true}
use mathlib.Core.List.{List, [], append-nil}
use native.Mathlib.Omega.{arith}
use native.Mathlib.Decide.{ℕ_discrete, dec_lt}
use borrow.Author.Tests.{eq-eqb}
use lib.Dec.{eqb}
use Rattle.model.specs.Section.{item_at}
use Rattle.verdicts.specs.Orderly.{Orderly}
use Rattle.verdicts.proofs.ByLast.{later}
use Rattle.install.specs.Order.{StreamsBelow}
use Rattle.install.specs.Pieces.{piece_at, pieces_till}
use Rattle.install.proofs.Installing.{piece_elsewhere}

pub below_none : (h : List ℕ) (n : ℕ) → StreamsBelow h n 0 0
below_none h n = record { low = omega arith; these = λ i l. absurd (omega arith); rest = λ i l u. omega arith }

module _ {h : List ℕ} {n s a : ℕ} (w : StreamsBelow h n s a) where
  -- ---- going on from a over the places of stream s

  pub end_here : Orderly h n → (m : ℕ) → a ≤ m → m < n → ((item_at h m).stream ≡ s → ⊥) → ((i : ℕ) → i < m → (item_at h i).stream < s + 1) → StreamsBelow h n (s + 1) m
  end_here o m l u d f = record { low = omega arith; these = f; rest = λ i p q. let z : s < (item_at h m).stream = omega (arith, w.rest m l u, d) in omega (arith, (later h n o m i p q).0) }

  -- ---- from a to b

  module _ {b : ℕ} (v : StreamsBelow h n (s + 1) b) where
    pub in_turn : a ≤ b
    in_turn = go (dec_lt b a)
      where
        go : Dec (b < a) → a ≤ b
        go (yes l) = absurd (omega (arith, w.these b l, w.low, v.rest b (omega arith) (omega (arith, w.low))))
        go (no l) = omega arith

    pub piece_here : (i : ℕ) → a ≤ i → i < b → eqb (item_at h i).stream s ≡ true
    piece_here i l u = eq-eqb (item_at h i).stream s (let low = w.rest i l (omega (arith, v.low)) in let high = v.these i u in omega arith)

    module _ (verdicts : List (Option Verdict)) (sort : Sort) where
      none_at : (i : ℕ) → ((item_at h i).stream ≡ s → ⊥) → piece_at verdicts h s sort i ≡ []
      none_at i d = rw (← piece_elsewhere verdicts h s i sort d)

      pub till_start : (m : ℕ) → m ≤ a → pieces_till verdicts h s sort m ≡ []
      unfolding pieces_till
      till_start zero l = refl
      till_start (suc m) l = let q = w.these m (omega arith) in rw (till_start m (omega arith), none_at m (λ e. omega arith))

      pub till_end : (m : ℕ) → b ≤ m → m ≤ n → pieces_till verdicts h s sort m ≡ pieces_till verdicts h s sort b
      unfolding pieces_till
      till_end zero l u = let z : b ≡ 0 = omega arith in rw z
      till_end (suc m) l u = go (ℕ_discrete b (suc m)) (till_end m)
        where
          go : Dec (b ≡ suc m) → (b ≤ m → m ≤ n → pieces_till verdicts h s sort m ≡ pieces_till verdicts h s sort b) → pieces_till verdicts h s sort (suc m) ≡ pieces_till verdicts h s sort b
          go (yes z) ih = rw z
          go (no z) ih = let q = v.rest m (omega arith) (omega arith) in rw (none_at m (λ e. omega arith), append-nil (pieces_till verdicts h s sort m)) (ih (omega arith) (omega arith))
