-- Every well-formed account can stand in a lot. Assumes nothing.
use Prim.Native.Nat.{ℕ, zero, suc, ◌+◌, ◌*◌, ◌/◌, ◌%◌, ◌<◌, ◌≤◌}
use mathlib.Core.Path.{◌≡◌, refl, sym, ap, ◌∙◌}
use mathlib.Core.List.{List, [], ◌∷◌, ◌++◌, append-nil}
use native.Mathlib.Omega.{arith}
use lib.Dec.{eqb}
use lib.ListN.{length, get_or, drop, length-append, length-take, length-drop}
use lib.Seq.{get_or-drop, take_at, drop_at, drop-drop}
use borrow.Author.Tests.{leb-true}
use Rattle.wire.specs.Numbers.{number32, bytes16, bytes32}
use Rattle.std.specs.Prelude.{if◌then◌else◌}
use Rattle.model.specs.Account.{Record, absent, present, Account, account_fits, held_count}
use Rattle.model.specs.Accepting.{WellFormed}
use Rattle.model.specs.Image.{form, stream8, held20, each}
use Rattle.model.specs.Decoding.{counters_of, item_of, parse, mine, counters_at, account}
use Rattle.model.specs.Section.{items}
use Rattle.model.proofs.Tests.{nth}
use Rattle.model.proofs.Buckets.{singles, length_singles, get_or_singles}
use Rattle.model.proofs.ByStream.{Sorted, held_sorted}
use Rattle.model.proofs.Decode.{stream_long, stream_back, item_long, item_back, length_each, parse_each}
use Rattle.model.proofs.Forms.{streams_length, held_length, form_fits_law, account_form}
use Rattle.lookback.proofs.Places.{get_or_parse, number32_drop}
use Rattle.lot.specs.Layout.{SIZE, FREE}
use Rattle.lot.specs.Head.{numbers_with, head_bytes}
use Rattle.lot.specs.View.{Lot, free, record_at, holds, view_lot}
use Rattle.lot.specs.declared.Account as numbers
use Rattle.lot.proofs.Shown.{StreamsShow, PlacesShow, head_shown}
use Rattle.lot.proofs.Views.{streams_are}
use Rattle.writes.specs.Sections.{Sections, overwritten}
use Rattle.writes.proofs.Changes.{sections_hold}
use Rattle.writes.proofs.Fresh.{freed}
use Rattle.lots.specs.Memory.{Becomes}
use Rattle.lots.proofs.Parts.{part, part_is, left, lent}
use Rattle.judging.proofs.Parts.{streams_plain, held_plain}
use Rattle.judging.proofs.Sections.{held_fit}

-- ---- a section of so many bytes that begins with x

pub zeros : ℕ → List ℕ
zeros zero = []
zeros (suc n) = 0 ∷ zeros n

pub length_zeros : (n : ℕ) → length (zeros n) ≡ n
unfolding zeros
length_zeros zero = refl
length_zeros (suc n) = ap suc (length_zeros n)

filled : ℕ → List ℕ → List ℕ
filled n x = overwritten x (zeros n)

length_filled : (n : ℕ) (x : List ℕ) → length x ≤ n → length (filled n x) ≡ n
unfolding filled
length_filled n x h = omega (arith, length-append x (drop (length x) (zeros n)), length-drop (length x) (zeros n), length_zeros n)

-- ---- the record section

record5 : Record → List ℕ
record5 absent = 0 ∷ 0 ∷ 0 ∷ 0 ∷ 0 ∷ []
record5 (present v) = 1 ∷ bytes32 v

record5_long : (x : Record) → length (record5 x) ≡ 5
unfolding record5 bytes32
record5_long absent = refl
record5_long (present v) = refl

record_of : List ℕ → Record
record_of l = if eqb (get_or l 0 0) 0 then absent else present (number32 l 1)

record5_back : (x : Record) (more : List ℕ) → record_of (record5 x ++ more) ≡ x
unfolding record_of record5 bytes32 number32
record5_back absent more = refl
record5_back (present v) more = ap present (omega arith)

module _ (a : Account) where
  cell : ℕ → Record
  cell p = (a.at (p / 128)).records (p % 128)

  records : List ℕ
  records = each record5 (singles cell 1024 0)

  length_records : length records ≡ 5120
  unfolding records
  length_records = length_each record5 5 record5_long (singles cell 1024 0) ∙ rw (length_singles cell 1024 0)

  records_parsed : parse 1024 5 record_of records ≡ singles cell 1024 0
  unfolding records
  records_parsed = rw (length_singles cell 1024 0, append-nil records) at (parse_each record5 5 record5_long record_of record5_back (singles cell 1024 0) [])

  record_at_law : (r : List ℕ) (i k : ℕ) → record_of (drop ((i * 128 + k) * 5) r) ≡ record_at r i k
  unfolding record_at record_of
  record_at_law r i k = let p = (i * 128 + k) * 5 in let z : p + 0 ≡ p = omega arith in rw (get_or-drop p r 0 0, z, number32_drop p r 1)

  cell_is : (i k : ℕ) → k < 128 → cell (0 + (i * 128 + k)) ≡ (a.at i).records k
  unfolding cell
  cell_is i k h =
      let f : (0 + (i * 128 + k)) / 128 ≡ i = omega arith in
      let r : (0 + (i * 128 + k)) % 128 ≡ k = omega arith in
      λ t. (a.at (f t)).records (r t)

  records_shown : (i k : ℕ) → i < 8 → k < 128 → record_at records i k ≡ (a.at i).records k
  records_shown i k hi hk =
      let p = i * 128 + k in
      sym (record_at_law records i k) ∙ sym (get_or_parse 5 record_of absent 1024 records p (omega arith)) ∙ rw records_parsed (get_or_singles cell absent 1024 0 p (omega arith)) ∙ cell_is i k hk

  -- ---- streams and places

  module _ (ok : WellFormed a) where
    few : a.fragments ≤ 8
    unfolding account_fits
    few = leb-true a.fragments 8 (nth _ ok.fits 3)

    few_keys : a.keys ≤ 128
    unfolding account_fits
    few_keys = leb-true a.keys 128 (nth _ ok.fits 5)

    abbrev streams : List ℕ
    streams = each stream8 (form a).streams

    abbrev places : List ℕ
    places = each held20 (form a).held

    length_streams : length streams ≤ 64
    length_streams = omega (arith, length_each stream8 8 stream_long (form a).streams, streams_length a, few)

    length_places : length places ≤ 5120
    length_places = omega (arith, length_each held20 20 item_long (form a).held, held_length a, ok.room)

    shown_back : (i : ℕ) → (counters_at (form a).streams i ≡ (a.at i).counters) × (mine i (form a).held ≡ (a.at i).held)
    unfolding account
    shown_back i = let e = account_form ok in (ap (λ x. (x.at i).counters) e, ap (λ x. (x.at i).held) e)

    streams_shown : (rest : List ℕ) → StreamsShow (streams ++ rest) a
    streams_shown rest =
        let n = streams_length a in
        let back : parse a.fragments 8 counters_of (streams ++ rest) ≡ (form a).streams = rw n at (parse_each stream8 8 stream_long counters_of stream_back (form a).streams rest) in
        record {
          counters = λ i h. sym (streams_are (streams ++ rest) a.fragments i h) ∙ rw back (shown_back i).0;
          zero_bytes = λ i h. streams_plain rest (form a).streams i (omega (arith, n));
        }

    in_order_law : Sorted a.fragments (form a).held
    in_order_law = rw (streams_length a) at (held_sorted (form a).keys (form a).closed (form a).streams (form a).held (held_fit (form a) (form_fits_law ok)))

    places_shown : (rest : List ℕ) → PlacesShow (places ++ rest) (held_count a) a
    places_shown rest =
        let n = held_length a in
        let back : items (held_count a) (places ++ rest) ≡ (form a).held = rw n at (parse_each held20 20 item_long item_of item_back (form a).held rest) in
        record {
          held = λ i h. ap (mine i) back ∙ (shown_back i).1;
          sorted = rw back in_order_law;
          plain_places = rw n at (held_plain rest (form a).held);
        }

-- ---- the four sections, one after the other

module _ (h s p r : List ℕ) (lh : length h ≡ 16) (ls : length s ≡ 64) (lp : length p ≡ 5120) (lr : length r ≡ 5120) where
  abbrev joined : List ℕ
  joined = h ++ (s ++ (p ++ r))

  length_joined : length joined ≡ SIZE
  length_joined = omega (arith, length-append h (s ++ (p ++ r)), length-append s (p ++ r), length-append p r)

  past_head : drop 16 joined ≡ s ++ (p ++ r)
  past_head = drop_at h (s ++ (p ++ r)) 16 lh

  past_streams : drop 80 joined ≡ p ++ r
  past_streams = sym (drop-drop 64 16 joined) ∙ rw past_head (drop_at s (p ++ r) 64 ls)

  past_places : drop 5200 joined ≡ r
  past_places = sym (drop-drop 5120 80 joined) ∙ rw past_streams (drop_at p r 5120 lp)

  joined_sections : Sections joined h s p r
  joined_sections = record {
    head = take_at h (s ++ (p ++ r)) 16 lh;
    streams = rw past_head (take_at s (p ++ r) 64 ls);
    places = rw past_streams (take_at p r 5120 lp);
    records = past_places;
  }

length_head : (n : numbers.Account) → length (head_bytes n) ≡ 16
unfolding head_bytes bytes16 bytes32
length_head n = refl

-- bytes of a lot that holds the account
pub lot_with : (a : Account) → WellFormed a → (l : List ℕ) × (length l ≡ SIZE) × (view_lot l ≡ holds a)
unfolding filled
lot_with a ok =
    let n = numbers_with (held_count a) a in
    let s = filled 64 (streams a ok) in
    let p = filled 5120 (places a ok) in
    let lh = length_head n in
    let ls = length_filled 64 (streams a ok) (length_streams a ok) in
    let lp = length_filled 5120 (places a ok) (length_places a ok) in
    let lr = length_records a in (
      joined (head_bytes n) s p (records a) lh ls lp lr,
      length_joined (head_bytes n) s p (records a) lh ls lp lr,
      sections_hold (joined_sections (head_bytes n) s p (records a) lh ls lp lr)
          (record {
            count = held_count a;
            head = head_shown (held_count a) a;
            streams = streams_shown a ok _;
            places = places_shown a ok _;
            records = λ i k hi hk. records_shown a i k (omega (arith, few a ok)) (omega (arith, few_keys a ok));
          })
          ok,
    )

-- ---- in a memory

-- a lot of the memory becomes v, where some bytes mean v
pub becomes : (m : List ℕ) (i : ℕ) (v : Lot) → i * SIZE + SIZE ≤ length m → (l : List ℕ) × (length l ≡ SIZE) × (view_lot l ≡ v) → (m' : List ℕ) × Becomes i m m' v
becomes m i v inside l =
    let kept : length l.0 ≡ length (part m i) = l.1 ∙ sym (ap length (part_is m i) ∙ simp (length-take, length-drop) (omega arith)) in
    (left m i l.0 inside kept, lent m i l.0 inside kept l.2)

pub lot_freed : (l : List ℕ) × (length l ≡ SIZE) × (view_lot l ≡ free)
lot_freed = (FREE ++ drop 4 (zeros SIZE), omega (arith, length-append FREE (drop 4 (zeros SIZE)), length-drop 4 (zeros SIZE), length_zeros SIZE), freed (zeros SIZE))
