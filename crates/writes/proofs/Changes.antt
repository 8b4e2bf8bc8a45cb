-- What the sections show of an account after a write. Assumes nothing.
use Prim.Native.Nat.{ℕ, ◌+◌, ◌*◌, ◌<◌, ◌≤◌, ◌^◌}
use mathlib.Core.Path.{◌≡◌, sym, ◌∙◌}
use mathlib.Core.List.{List}
use native.Mathlib.Omega.{arith}
use native.Mathlib.Decide.{ℕ_discrete}
use lib.ListN.{length, drop}
use Rattle.wire.specs.Numbers.{number16}
use Rattle.model.specs.Account.{absent, present, Account}
use Rattle.model.specs.Accepting.{WellFormed}
use Rattle.model.specs.Decoding.{counters_of}
use Rattle.model.specs.declared.Counters.{Counters}
use Rattle.lot.specs.View.{record_at, holds, view_lot}
use Rattle.lot.specs.Writing.{with_counters, with_record, without_record}
use Rattle.writes.specs.Sections.{Sections}
use Rattle.lot.proofs.Counters.{counters_own, counters_other, zeros_own, zeros_other}
use Rattle.lot.proofs.Records.{put_own, put_other, delete_own, delete_other}
use Rattle.lot.proofs.Shown.{HeadShows, StreamsShow, PlacesShow, RecordsShow, Shows}
use Rattle.lot.proofs.Views.{shown_view}

-- a lot with sections that show a well-formed account holds it
pub sections_hold : {l h s p r : List ℕ} {a : Account} → Sections l h s p r → Shows h s p r a → WellFormed a → view_lot l ≡ holds a
unfolding view_lot
sections_hold {h = h} {s = s} {p = p} {r = r} c w ok = rw (c.head, c.streams, c.places, c.records) (shown_view h s p r w ok)

-- ---- a section that is not written shows an account b that is like a there

module _ (a b : Account) (f : b.fragments ≡ a.fragments) where
  pub head_same : {h : List ℕ} {n : ℕ} → b.number ≡ a.number → b.keys ≡ a.keys → b.closed ≡ a.closed → HeadShows h n a → HeadShows h n b
  head_same m k c w = record { tag = w.tag; number = w.number ∙ sym m; fragments = w.fragments ∙ sym f; zero_byte = w.zero_byte; keys = w.keys ∙ sym k; count = w.count; closed = w.closed ∙ sym c }

  pub streams_same : {s : List ℕ} → ((i : ℕ) → (b.at i).counters ≡ (a.at i).counters) → StreamsShow s a → StreamsShow s b
  streams_same e w = record { counters = λ i h. w.counters i (omega arith) ∙ sym (e i); zero_bytes = λ i h. w.zero_bytes i (omega arith) }

  pub places_same : {p : List ℕ} {n : ℕ} → ((i : ℕ) → (b.at i).held ≡ (a.at i).held) → PlacesShow p n a → PlacesShow p n b
  places_same e w = record { held = λ i h. w.held i (omega arith) ∙ sym (e i); sorted = rw f w.sorted; plain_places = w.plain_places }

  pub records_same : (r : List ℕ) → b.keys ≡ a.keys → ((i k : ℕ) → (b.at i).records k ≡ (a.at i).records k) → RecordsShow r a → RecordsShow r b
  records_same r k e w i j h l = w i j (omega arith) (omega arith) ∙ sym (e i j)

-- ---- the account b has the counters c in stream i, and else those of a

module _ (s : List ℕ) (i : ℕ) (c : Counters) (a b : Account) (room : i * 8 + 8 ≤ length s) (next : c.next < 2 ^ 16) (epoch : c.epoch < 2 ^ 32)
    (own : (b.at i).counters ≡ c) (others : (j : ℕ) → (i ≡ j → ⊥) → (b.at j).counters ≡ (a.at j).counters) where
  pub counters_shown : b.fragments ≡ a.fragments → StreamsShow s a → StreamsShow (with_counters s i c) b
  counters_shown f w = record { counters = λ j h. counters j (omega arith) (ℕ_discrete i j); zero_bytes = λ j h. zeros j (omega arith) (ℕ_discrete i j) }
    where
      counters : (j : ℕ) → j < a.fragments → Dec (i ≡ j) → counters_of (drop (j * 8) (with_counters s i c)) ≡ (b.at j).counters
      counters j h (yes e) = rw (← e) (counters_own s i c room next epoch ∙ sym own)
      counters j h (no n) = counters_other s i c j n ∙ w.counters j h ∙ sym (others j n)

      zeros : (j : ℕ) → j < a.fragments → Dec (i ≡ j) → number16 (with_counters s i c) (j * 8 + 2) ≡ 0
      zeros j h (yes e) = rw (← e) (zeros_own s i c room)
      zeros j h (no n) = zeros_other s i c j n ∙ w.zero_bytes j h

-- ---- the account b has another record of fragment i and key k, and else those of a

module _ (r : List ℕ) (i k : ℕ) (a b : Account) (sized : length r ≡ 5120) (within : i < 8) (small : k < 128) (few : a.keys ≤ 128)
    (f : b.fragments ≡ a.fragments) (ks : b.keys ≡ a.keys) (others : (j l : ℕ) → (i ≡ j → k ≡ l → ⊥) → (b.at j).records l ≡ (a.at j).records l) (w : RecordsShow r a) where
  -- by any records q that differ from r there alone
  changed : (q : List ℕ) → record_at q i k ≡ (b.at i).records k → ((j l : ℕ) → l < 128 → (i ≡ j → k ≡ l → ⊥) → record_at q j l ≡ record_at r j l) → RecordsShow q b
  changed q own stay j l hj hl = go (ℕ_discrete i j) (ℕ_discrete k l)
    where
      other : (i ≡ j → k ≡ l → ⊥) → record_at q j l ≡ (b.at j).records l
      other n = stay j l (omega arith) n ∙ w j l (omega arith) (omega arith) ∙ sym (others j l n)

      go : Dec (i ≡ j) → Dec (k ≡ l) → record_at q j l ≡ (b.at j).records l
      go (yes d) (yes e) = rw (← d, ← e) own
      go (yes d) (no n) = other (λ x. n)
      go (no n) e = other (λ x. absurd (n x))

  pub put_shown : (v : ℕ) → v < 2 ^ 32 → (b.at i).records k ≡ present v → RecordsShow (with_record r i k v) b
  put_shown v low e = changed (with_record r i k v) (put_own r i k (omega arith) v low ∙ sym e) (λ j l h n. put_other r i k small j l h n v)

  pub delete_shown : (b.at i).records k ≡ absent → RecordsShow (without_record r i k) b
  delete_shown e = changed (without_record r i k) (delete_own r i k (omega arith) ∙ sym e) (λ j l h n. delete_other r i k small j l h n)
