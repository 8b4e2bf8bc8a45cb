-- A lot that is freed, and one in which an account is opened. Assumes nothing.
use Prim.Native.Nat.{ℕ, zero, suc, ◌+◌, ◌*◌, ◌<◌, ◌≤◌}
use mathlib.Core.Path.{◌≡◌, refl, ap, ◌∙◌}
use mathlib.Core.Bool.{true}
use mathlib.Core.List.{List, ◌++◌}
use native.Mathlib.Omega.{arith}
use native.Mathlib.Decide.{dec_lt}
use borrow.Author.Tests.{leb-true}
use lib.ListN.{length, get_or, drop, replicate, get_or-eq_default, length-replicate}
use Rattle.std.proofs.lemmas.List.{get_or-replicate}
use Rattle.wire.specs.Numbers.{number16}
use Rattle.model.specs.Lists.{every}
use Rattle.model.specs.Account.{absent, fresh_counters, account_fits, fresh}
use Rattle.model.specs.Decoding.{counters_of, parse, mine, same}
use Rattle.model.proofs.Tests.{nth}
use Rattle.model.proofs.Buckets.{Rising}
use Rattle.model.proofs.Keeping.{fresh_well_formed}
use Rattle.lot.specs.Layout.{SIZE, FREE, streams_of, records_of}
use Rattle.lot.specs.View.{record_at, free, holds, view, view_lot}
use Rattle.lot.specs.Head.{fresh_numbers, head_bytes}
use Rattle.lot.specs.Writing.{with_counters}
use Rattle.writes.specs.Fresh.{fresh_streams, Zeros}
use Rattle.writes.specs.Sections.{WithHead, WithStreams, WithRecords}
use Rattle.lot.proofs.Lengths.{length_streams}
use Rattle.lot.proofs.Counters.{length_counters, counters_own, counters_other, zeros_own, zeros_other}
use Rattle.lot.proofs.Shown.{Shows, head_shown}
use Rattle.writes.proofs.Changes.{sections_hold}

pub freed : (l : List ℕ) → view_lot (FREE ++ drop 4 l) ≡ free
unfolding view_lot view same
freed l = refl

-- ---- bytes made zero

pub all_zero : (n : ℕ) (r : List ℕ) → r ≡ replicate {A = ℕ} n 0 → Zeros r
unfolding Zeros
all_zero n r e i = rw e (go (dec_lt i n))
  where
    go : Dec (i < n) → get_or {A = ℕ} (replicate n 0) i 0 ≡ 0
    go (yes m) = get_or-replicate n i 0 0 m
    go (no m) = get_or-eq_default (replicate n 0) 0 {n = i} (omega (arith, length-replicate {A = ℕ} n 0))

pub no_record : (r : List ℕ) → Zeros r → (i k : ℕ) → record_at r i k ≡ absent
unfolding Zeros record_at
no_record r z i k = rw (z ((i * 128 + k) * 5))

-- ---- fresh streams

module _ (s : List ℕ) where
  length_fresh : (n : ℕ) → length (fresh_streams s n) ≡ length s
  unfolding fresh_streams
  length_fresh zero = refl
  length_fresh (suc n) = length_counters (fresh_streams s n) n fresh_counters ∙ length_fresh n

  fresh_streams_law : (n : ℕ) → n * 8 ≤ length s → (i : ℕ) → i < n → (counters_of (drop (i * 8) (fresh_streams s n)) ≡ fresh_counters) × (number16 (fresh_streams s n) (i * 8 + 2) ≡ 0)
  unfolding fresh_streams
  fresh_streams_law zero room i h = absurd (omega arith)
  fresh_streams_law (suc n) room i h = go (dec_lt i n) (fresh_streams_law n (omega arith) i)
    where
      long : n * 8 + 8 ≤ length (fresh_streams s n)
      long = omega (arith, length_fresh n)

      go : Dec (i < n) → (i < n → (counters_of (drop (i * 8) (fresh_streams s n)) ≡ fresh_counters) × (number16 (fresh_streams s n) (i * 8 + 2) ≡ 0))
          → (counters_of (drop (i * 8) (with_counters (fresh_streams s n) n fresh_counters)) ≡ fresh_counters) × (number16 (with_counters (fresh_streams s n) n fresh_counters) (i * 8 + 2) ≡ 0)
      go (yes l) ih =
          let ne : n ≡ i → ⊥ = λ e. omega arith in
          (counters_other (fresh_streams s n) n fresh_counters i ne ∙ (ih l).0, zeros_other (fresh_streams s n) n fresh_counters i ne ∙ (ih l).1)
      go (no l) ih =
          let e : i ≡ n = omega arith in
          rw e (counters_own (fresh_streams s n) n fresh_counters long (omega arith) (omega arith), zeros_own (fresh_streams s n) n fresh_counters long)

-- ---- an account is opened: the head is written, the streams made fresh, the records cleared

module _ (number f k : ℕ) (fit : account_fits number f k ≡ true) where
  few : f ≤ 8
  unfolding account_fits
  few = leb-true f 8 (nth _ fit 3)

  fresh_shown : (s p r : List ℕ) → length s ≡ 64 → Zeros r → Shows (head_bytes (fresh_numbers number f k)) (fresh_streams s 8) p r (fresh number f k)
  unfolding fresh parse mine Rising every
  fresh_shown s p r long z = record {
    count = 0;
    head = head_shown 0 (fresh number f k);
    streams = record { counters = λ i h. (fresh_streams_law s 8 (omega arith) i (omega (arith, few))).0; zero_bytes = λ i h. (fresh_streams_law s 8 (omega arith) i (omega (arith, few))).1 };
    places = record { held = λ i h. refl; sorted = tt; plain_places = refl };
    records = λ i k h l. no_record r z i k;
  }

  pub opened : (l l₁ l₂ l₃ : List ℕ) → length l ≡ SIZE → WithHead l l₁ (head_bytes (fresh_numbers number f k)) → WithStreams l₁ l₂ (fresh_streams (streams_of l₁) 8)
      → WithRecords l₂ l₃ (records_of l₃) → Zeros (records_of l₃) → view_lot l₃ ≡ holds (fresh number f k)
  opened l l₁ l₂ l₃ size a b c z =
      let h = c.head ∙ b.head ∙ a.head in
      let s = c.streams ∙ b.streams ∙ ap (λ x. fresh_streams x 8) a.streams in
      sections_hold (record { head = h; streams = s; places = c.places; records = refl })
      (fresh_shown (streams_of l) _ (records_of l₃) (length_streams l size) z)
      (fresh_well_formed number f k fit)
