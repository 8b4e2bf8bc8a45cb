-- A lot after a record is put or deleted holds the account with that record, which is well-formed as before. Assumes nothing.
use Prim.Native.Nat.{ℕ, ◌<◌, ◌≤◌, ◌^◌}
use mathlib.Core.Path.{◌≡◌, refl, ◌∙◌}
use mathlib.Core.Bool.{Bool, true, false, ◌&&◌}
use mathlib.Core.List.{List}
use native.Mathlib.Omega.{arith}
use lib.Dec.{eqb}
use borrow.Author.Tests.{eq-eqb, eqb-true, leb-true}
use lib.ListN.{length}
use Rattle.std.specs.Prelude.{if◌then◌else◌}
use Rattle.model.specs.Account.{Record, absent, present, Account, account_fits, held_count}
use Rattle.model.specs.Accepting.{WellFormed}
use Rattle.model.proofs.Tests.{nth}
use Rattle.lot.specs.Layout.{SIZE, records_of}
use Rattle.lot.specs.View.{holds, view_lot}
use Rattle.lot.specs.Writing.{with_record, without_record}
use Rattle.writes.specs.RecordSet.{record_set}
use Rattle.writes.specs.Sections.{WithRecords}
use Rattle.lot.proofs.Lengths.{length_records}
use Rattle.lot.proofs.Shown.{RecordsShow}
use Rattle.lot.proofs.Views.{holds_shown, holds_well_formed}
use Rattle.writes.proofs.Changes.{sections_hold, head_same, streams_same, places_same, put_shown, delete_shown}

module _ (i k : ℕ) (x : Record) (a : Account) where
  set_own : ((record_set i k x a).at i).records k ≡ x
  unfolding record_set
  set_own = rw (eq-eqb i i refl, eq-eqb k k refl)

  set_other : (j l : ℕ) → (i ≡ j → k ≡ l → ⊥) → ((record_set i k x a).at j).records l ≡ (a.at j).records l
  unfolding record_set
  set_other j l n = go (eqb i j) (eqb k l) refl refl
    where
      go : (b c : Bool) → eqb i j ≡ b → eqb k l ≡ c → (if b && c then x else (a.at j).records l) ≡ (a.at j).records l
      go true true p q = absurd (n (eqb-true i j p) (eqb-true k l q))
      go true false p q = refl
      go false c p q = refl

  set_well_formed : i < a.fragments → k < a.keys → WellFormed a → WellFormed (record_set i k x a)
  unfolding record_set held_count
  set_well_formed within inside w = record {
    fits = w.fits;
    room = w.room;
    opened = w.opened;
    streams = w.streams;
    no_fragment = λ j h. (λ t. record { counters = (a.at j).counters; held = (a.at j).held; records = λ l. set_other j l (λ d e. omega arith) t }) ∙ w.no_fragment j h;
    no_key = λ j l h. set_other j l (λ d e. omega arith) ∙ w.no_key j l h;
  }

  set_held : (l m r : List ℕ) → i < a.fragments → k < a.keys → view_lot l ≡ holds a → WithRecords l m r → RecordsShow r (record_set i k x a) → view_lot m ≡ holds (record_set i k x a)
  unfolding record_set
  set_held l m r within inside e c q =
      let w = holds_shown l e in
      let b = record_set i k x a in
      sections_hold c
      (record {
        count = w.count;
        head = head_same a b refl refl refl refl w.head;
        streams = streams_same a b refl (λ j. refl) w.streams;
        places = places_same a b refl (λ j. refl) w.places;
        records = q;
      })
      (set_well_formed within inside (holds_well_formed l e))

module _ (l m : List ℕ) (i k : ℕ) (a : Account) (size : length l ≡ SIZE) (e : view_lot l ≡ holds a) (within : i < a.fragments) (inside : k < a.keys) where
  limits : (a.fragments ≤ 8) × (a.keys ≤ 128)
  unfolding account_fits
  limits = let n = nth _ (holds_well_formed l e).fits in (leb-true a.fragments 8 (n 3), leb-true a.keys 128 (n 5))

  pub put_view : (v : ℕ) → v < 2 ^ 32 → WithRecords l m (with_record (records_of l) i k v) → view_lot m ≡ holds (record_set i k (present v) a)
  unfolding record_set
  put_view v small c =
      set_held i k (present v) a l m (with_record (records_of l) i k v) within inside e c
      (put_shown (records_of l) i k a (record_set i k (present v) a) (length_records l size) (omega (arith, limits)) (omega (arith, limits)) limits.1 refl refl (set_other i k (present v) a) (holds_shown l e).records v small (set_own i k (present v) a))

  pub delete_view : WithRecords l m (without_record (records_of l) i k) → view_lot m ≡ holds (record_set i k absent a)
  unfolding record_set
  delete_view c =
      set_held i k absent a l m (without_record (records_of l) i k) within inside e c
      (delete_shown (records_of l) i k a (record_set i k absent a) (length_records l size) (omega (arith, limits)) (omega (arith, limits)) limits.1 refl refl (set_other i k absent a) (holds_shown l e).records (set_own i k absent a))
