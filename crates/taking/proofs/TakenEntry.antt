-- An entry that is due: what may be read and written for it, and that the lot then holds the account with the entry taken. Assumes nothing.
use Prim.Native.Nat.{ℕ, ◌+◌, ◌*◌, ◌<◌, ◌≤◌, ◌^◌}
use mathlib.Core.Path.{◌≡◌, refl, sym, ap, ◌∙◌}
use mathlib.Core.Bool.{Bool, true, false, not, ◌||◌}
use mathlib.Core.List.{List}
use native.Mathlib.Omega.{arith}
use native.Mathlib.Decide.{ℕ_discrete}
use lib.Dec.{leb, eqb}
use lib.ListN.{length, drop}
use borrow.Author.Tests.{eqb-true, eq-eqb, ne_eqb, leb-true}
use Rattle.std.specs.Prelude.{if◌then◌else◌, Ok, Err}
use Rattle.model.specs.Entry.{LENGTH, LAST_MARK, entry_of, is_mark, fits, fields_fit}
use Rattle.model.specs.Account.{Account, held_count}
use Rattle.model.specs.Taking.{judge_entry, judge, stepped, take, taken}
use Rattle.model.specs.Accepting.{WellFormed}
use Rattle.model.specs.Decoding.{counters_of, mine}
use Rattle.model.specs.Section.{items}
use Rattle.model.specs.declared.Entry.{Entry}
use Rattle.model.specs.declared.Refusal.TheVariants.{WrongLength}
use Rattle.model.proofs.Tests.{no_way, and_r, nth}
use Rattle.model.proofs.Judged.{TakenFacts, taken_facts}
use Rattle.model.proofs.Keeping.{taken_well_formed}
use Rattle.places.specs.Places.{EntryHeld}
use Rattle.places.proofs.Holding.{held_own, held_other, stays_sorted}
use Rattle.lot.specs.Layout.{streams_of, places_of, records_of}
use Rattle.lot.specs.View.{holds, view_lot}
use Rattle.lot.specs.Head.{head_bytes}
use Rattle.writes.specs.Sections.{WithHead}
use Rattle.lot.specs.Writing.{with_counters}
use Rattle.lot.specs.declared.Account as numbers
use Rattle.lot.proofs.Shown.{StreamsShow, PlacesShow, RecordsShow, head_shown}
use Rattle.lot.proofs.Lengths.{length_streams}
use Rattle.lot.proofs.Views.{holds_shown, holds_well_formed, shown_count}
use Rattle.lot.proofs.Looked.{looked_held, Known, known}
use Rattle.writes.proofs.Changes.{sections_hold, head_same, places_same, records_same, counters_shown}
use Rattle.taking.specs.Delivering.{Due, StreamStepped, HeldIn, one_more, Taken}

-- a mark that fits carries an epoch that a mark can carry
mark_low : (e : Entry) → fits e ≡ true → is_mark e ≡ true → e.transaction ≤ LAST_MARK
unfolding fits fields_fit
mark_low e w m = leb-true e.transaction LAST_MARK (go (is_mark e) m (nth _ (and_r (eqb e.spare 0) _ w) 5))
  where
    go : (b : Bool) → b ≡ true → (not b || leb e.transaction LAST_MARK) ≡ true → leb e.transaction LAST_MARK ≡ true
    go true m q = q
    go false m q = no_way m

module _ (l bytes : List ℕ) {n : numbers.Account} (d : Due l n bytes) where
  abbrev e : Entry
  e = entry_of bytes

  abbrev i : ℕ
  i = (entry_of bytes).fragment

  module _ (a : Account) (v : view_lot l ≡ holds a) where
    judged : (length bytes ≡ LENGTH) × (judge_entry a (entry_of bytes) ≡ Ok tt)
    unfolding judge
    judged = go (eqb (length bytes) LENGTH) refl (sym (d.done a v))
      where
        go : (b : Bool) → eqb (length bytes) LENGTH ≡ b → (if not b then Err WrongLength else judge_entry a (entry_of bytes)) ≡ Ok tt → (length bytes ≡ LENGTH) × (judge_entry a (entry_of bytes) ≡ Ok tt)
        go true q p = (eqb-true (length bytes) LENGTH q, p)
        go false q p = no_way cc

    facts : TakenFacts a (entry_of bytes)
    facts = taken_facts a (entry_of bytes) judged.1

  -- ---- what may be read and written

  pub record Limits : Type 0 where
    pub long : length bytes ≡ LENGTH
    pub fragment : (entry_of bytes).fragment < 8
    pub mark : is_mark (entry_of bytes) ≡ true → (counters_of (drop ((entry_of bytes).fragment * 8) (streams_of l))).epoch ≤ LAST_MARK
    pub room : is_mark (entry_of bytes) ≡ false → n.held < 256

  pub limits : Limits
  limits =
      let h = looked_held l d.looked.seen in
      let a = h.account in
      let t = facts a h.holds_it in
      let w = known d.looked a h.holds_it in
      record {
        long = (judged a h.holds_it).0;
        fragment = omega (arith, t.fragment, w.few);
        mark = λ m. rw (w.streams.counters i t.fragment, ← t.mark m) (mark_low e t.fit m);
        room = λ m. rw w.numbers_are (t.room m);
      }

  -- ---- what the sections then show

  module _ (a : Account) (v : view_lot l ≡ holds a) where
    t : TakenFacts a (entry_of bytes)
    t = facts a v

    w : Known l n a
    w = known d.looked a v

    well_formed : WellFormed (taken (entry_of bytes) a)
    well_formed = taken_well_formed e (holds_well_formed l v) (judged a v).1

    streams_shown : (stepped (counters_of (drop ((entry_of bytes).fragment * 8) (streams_of l))) (is_mark (entry_of bytes))).epoch < 2 ^ 32
        → StreamsShow (with_counters (streams_of l) (entry_of bytes).fragment (stepped (counters_of (drop ((entry_of bytes).fragment * 8) (streams_of l))) (is_mark (entry_of bytes)))) (taken (entry_of bytes) a)
    unfolding taken take stepped
    streams_shown small =
        counters_shown (streams_of l) i (stepped (counters_of (drop (i * 8) (streams_of l))) (is_mark e)) a (taken e a)
        (omega (arith, length_streams l d.looked.size, limits.fragment)) (omega arith) small (rw (eq-eqb i i refl, w.streams.counters i t.fragment)) (λ j ne. rw (ne_eqb i j ne)) refl w.streams

    records_shown : RecordsShow (records_of l) (taken (entry_of bytes) a)
    unfolding taken take
    records_shown = records_same a (taken e a) refl (records_of l) refl (λ j k. kept j k (eqb i j)) (holds_shown l v).records
      where
        kept : (j k : ℕ) (b : Bool) → (if b then take (a.at j) e else a.at j).records k ≡ (a.at j).records k
        kept j k true = refl
        kept j k false = refl

    -- a mark occupies no place
    unmoved : is_mark (entry_of bytes) ≡ true → PlacesShow (places_of l) (held_count a) (taken (entry_of bytes) a)
    unfolding taken take
    unmoved m = places_same a (taken e a) refl (λ j. kept j (eqb i j)) w.places
      where
        kept : (j : ℕ) (b : Bool) → (if b then take (a.at j) e else a.at j).held ≡ (a.at j).held
        kept j true = rw m
        kept j false = refl

    -- every other entry occupies one
    one_held : (p : List ℕ) (o : ℕ) → is_mark (entry_of bytes) ≡ false → o ≡ (a.at (entry_of bytes).fragment).counters.epoch → EntryHeld (places_of l) p (held_count a) bytes o → PlacesShow p (held_count a + 1) (taken (entry_of bytes) a)
    unfolding taken take
    one_held p o m q h = record {
      held = λ j f. held j f (ℕ_discrete i j);
      sorted = stays_sorted h t.fit a.fragments t.fragment w.places.sorted;
      plain_places = h.stays_plain t.fit w.places.plain_places;
    }
      where
        held : (j : ℕ) → j < a.fragments → Dec (i ≡ j) → mine j (items (held_count a + 1) p) ≡ ((taken e a).at j).held
        held j f (yes z) = rw (← z) (held_own h t.fit ∙ rw (w.places.held i t.fragment, eq-eqb i i refl, m, q))
        held j f (no z) = held_other h t.fit j z ∙ rw (ne_eqb i j z) (w.places.held j f)

  -- ---- the lot

  pub marked : (m : List ℕ) {o : ℕ} → StreamStepped l m (entry_of bytes).fragment (is_mark (entry_of bytes)) o → is_mark (entry_of bytes) ≡ true → Taken l m bytes
  unfolding taken
  marked m s q a v =
      let y = holds_shown l v in
      let c = shown_count (places_of l) y.count a y.places in
      sections_hold s.streams
      (record {
        count = held_count a;
        head = head_same a (taken e a) refl refl refl refl (rw c y.head);
        streams = streams_shown a v s.small;
        places = unmoved a v q;
        records = records_shown a v;
      })
      (well_formed a v)

  pub held : (l₁ l₂ l₃ : List ℕ) {o : ℕ} → StreamStepped l l₁ (entry_of bytes).fragment (is_mark (entry_of bytes)) o → is_mark (entry_of bytes) ≡ false
      → HeldIn l₁ l₂ n.held bytes o → WithHead l₂ l₃ (head_bytes (one_more n)) → Taken l l₃ bytes
  unfolding taken
  held l₁ l₂ l₃ {o} s q p h a v =
      let x = w a v in
      let opened : o ≡ (a.at i).counters.epoch = s.was ∙ ap (λ c. c.epoch) (x.streams.counters i (t a v).fragment) in
      let put = rw (s.streams.places, x.numbers_are) at p.held in
      sections_hold
      (record { head = h.head ∙ rw x.numbers_are; streams = h.streams ∙ p.places.streams ∙ s.streams.streams; places = h.places; records = h.records ∙ p.places.records ∙ s.streams.records })
      (record {
        count = held_count a + 1;
        head = head_shown (held_count a + 1) (taken e a);
        streams = streams_shown a v s.small;
        places = one_held a v (places_of l₂) o q opened put;
        records = records_shown a v;
      })
      (well_formed a v)
