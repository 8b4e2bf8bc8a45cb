-- A lot holds an account exactly if its sections show the account and it is well-formed. Assumes nothing.
use Prim.Native.Nat.{ℕ, zero, suc, ◌+◌, ◌*◌, ◌<◌, ◌≤◌}
use mathlib.Core.Path.{◌≡◌, refl, sym, ap, ◌∙◌}
use mathlib.Core.Bool.{Bool, true, false, ◌&&◌, and-true, and_assoc}
use mathlib.Core.List.{List, [], ◌∷◌, ◌++◌, map}
use native.Mathlib.Omega.{arith}
use native.Mathlib.Decide.{dec_lt}
use lib.Dec.{ltb}
use lib.ListN.{length, get_or, drop, length-map}
use borrow.Author.Tests.{eqb-true, eq-eqb, leb-true, le-leb, ltb-true, lt-ltb, le-ltb}
use Rattle.wire.specs.Numbers.{number16, number32}
use Rattle.std.specs.Prelude.{if◌then◌else◌}
use Rattle.std.specs.List.{list_all, range_with_len}
use Rattle.model.specs.Lists.{every, upward, sum_below}
use Rattle.model.specs.Account.{absent, Account, empty, fresh_counters, held_count}
use Rattle.model.specs.Accepting.{WellFormed}
use Rattle.model.specs.Image.{Item}
use Rattle.model.specs.Decoding.{counters_of, parse, mine, counters_at, held_fits, same}
use Rattle.model.proofs.Tests.{no_way, and_l, and_r, and, nth}
use Rattle.model.proofs.Sums.{sum_same}
use Rattle.model.proofs.Buckets.{length_upward}
use Rattle.model.proofs.Shows.{item, by_streams}
use Rattle.model.proofs.Image.{same_true}
use Rattle.model.proofs.ByStream.{held_fits_law, held_sorted, streams_fit}
use Rattle.lookback.proofs.Places.{length_parse, get_or_parse, number32_drop}
use Rattle.model.specs.Section.{items, plain, section_fits}
use Rattle.lot.specs.Layout.{FREE, OPEN, head_of, streams_of, places_of, records_of}
use Rattle.lot.specs.View.{tag_of, fragments_of, keys_of, count_of, closed_of, record_at, fragment_at, account_of, head_fits, stream_fits, all_below, fits, free, damaged, holds, view, view_lot}
use Rattle.lot.proofs.Shown.{PlacesShow, Shows, LotShows}

-- ---- what is shared by both directions

-- as many entries are held as the head says
pub shown_count : (p : List ℕ) (n : ℕ) (a : Account) → PlacesShow p n a → held_count a ≡ n
unfolding held_count sum_below
shown_count p n a w =
    let f = a.fragments in
    let xs = items n p in
    let z : 0 + f ≡ f = omega arith in
    let own : ℕ → List Item = λ i. map (item i) (mine i xs) in
    let each : (i : ℕ) → i < f → length (own i) ≡ length (a.at i).held = λ i h. length-map (mine i xs) (item i) ∙ ap length (w.held i h) in
    let all : length (upward f 0 own) ≡ n = ap length (by_streams f xs w.sorted) ∙ length_parse 20 _ n p in
    omega (arith, sum_same (λ i. length (a.at i).held) (λ i. length (own i)) f each, rw z at (length_upward f 0 own))

range_more : (a n : ℕ) → range_with_len a (suc n) ≡ range_with_len a n ++ (a + n) ∷ []
range_more a zero = let z : a + 0 ≡ a = omega arith in rw z
range_more a (suc n) = let z : a + 1 + n ≡ a + suc n = omega arith in ap (λ xs. a ∷ xs) (range_more (a + 1) n ∙ rw z)

module _ (p : ℕ → Bool) where
  pub below_in : (n : ℕ) → all_below p n ≡ true → (i : ℕ) → i < n → p i ≡ true
  unfolding all_below
  below_in zero w i h = absurd (omega arith)
  below_in (suc n) w i h = go (dec_lt i n) (below_in n (and_l (all_below p n) _ w) i)
    where
      go : Dec (i < n) → (i < n → p i ≡ true) → p i ≡ true
      go (yes l) below = below l
      go (no l) below = let e : i ≡ n = omega arith in rw e (and_r (all_below p n) _ w)

  pub below_of : (n : ℕ) → ((i : ℕ) → i < n → p i ≡ true) → all_below p n ≡ true
  unfolding all_below
  below_of zero w = refl
  below_of (suc n) w = and (below_of n (λ i h. w i (omega arith))) (w n (omega arith))

  all_more : (xs : List ℕ) (x : ℕ) → list_all p (xs ++ x ∷ []) ≡ (list_all p xs && p x)
  all_more [] x = and-true (p x)
  all_more (y ∷ xs) x = ap (λ b. p y && b) (all_more xs x) ∙ sym (and_assoc (p y) (list_all p xs) (p x))

  -- what `all` answers of the numbers below n
  pub below_all : (n : ℕ) → list_all p (range_with_len 0 n) ≡ all_below p n
  unfolding all_below
  below_all zero = refl
  below_all (suc n) = let z : 0 + n ≡ n = omega arith in ap (list_all p) (rw z at (range_more 0 n)) ∙ all_more (range_with_len 0 n) n ∙ ap (λ b. b && p n) (below_all n)

module _ (s : List ℕ) (f : ℕ) where
  pub streams_are : (i : ℕ) → i < f → counters_at (parse f 8 counters_of s) i ≡ counters_of (drop (i * 8) s)
  streams_are = get_or_parse 8 counters_of fresh_counters f s

  pub streams_many : length (parse f 8 counters_of s) ≡ f
  streams_many = length_parse 8 counters_of f s

pub epoch_at : (s : List ℕ) (i : ℕ) → (counters_of (drop (i * 8) s)).epoch ≡ number32 s (i * 8 + 4)
unfolding counters_of
epoch_at s i = number32_drop (i * 8) s 4

-- ---- what a lot that holds an account shows

module _ (h s p r : List ℕ) where
  within : (i : ℕ) → i < fragments_of h → (account_of h s p r).at i ≡ fragment_at h s p r i
  unfolding account_of
  within i l = rw (lt-ltb i (fragments_of h) l)

  record Opened : Type 0 where
    tag : tag_of h ≡ OPEN
    passes : fits h s p ≡ true

  module _ (w : Opened) where
    head_passes : head_fits h ≡ true
    unfolding fits
    head_passes = nth _ w.passes 0

    section_passes : section_fits (keys_of h) (closed_of h) (parse (fragments_of h) 8 counters_of s) (count_of h) p ≡ true
    unfolding fits
    section_passes = nth _ w.passes 2

    stream_passes : (i : ℕ) → i < fragments_of h → stream_fits (closed_of h) s i ≡ true
    unfolding fits
    stream_passes i l = below_in (stream_fits (closed_of h) s) (fragments_of h) (nth _ w.passes 1) i l

    entries_pass : held_fits (keys_of h) (closed_of h) (parse (fragments_of h) 8 counters_of s) [] (items (count_of h) p) ≡ true
    unfolding section_fits
    entries_pass = and_r (plain (count_of h) p) _ section_passes

    places_shown : PlacesShow p (count_of h) (account_of h s p r)
    unfolding section_fits account_of fragment_at
    places_shown = record {
      held = λ i l. sym (ap (λ x. x.held) (within i l));
      sorted = rw (streams_many s (fragments_of h)) at (held_sorted (keys_of h) (closed_of h) (parse (fragments_of h) 8 counters_of s) (items (count_of h) p) entries_pass);
      plain_places = and_l (plain (count_of h) p) _ section_passes;
    }

    sections_show : Shows h s p r (account_of h s p r)
    unfolding account_of fragment_at head_fits stream_fits
    sections_show = record {
      count = count_of h;
      head = record { tag = w.tag; number = refl; fragments = refl; zero_byte = eqb-true (get_or h 7 0) 0 (nth _ head_passes 1); keys = refl; count = refl; closed = refl };
      streams = record {
        counters = λ i l. sym (ap (λ x. x.counters) (within i l));
        zero_bytes = λ i l. eqb-true (number16 s (i * 8 + 2)) 0 (nth _ (stream_passes i l) 0);
      };
      places = places_shown;
      records = λ i k l m. rw (lt-ltb i (fragments_of h) l, lt-ltb k (keys_of h) m);
    }

    is_well_formed : WellFormed (account_of h s p r)
    unfolding account_of fragment_at head_fits stream_fits
    is_well_formed =
        let f = fragments_of h in
        let ss = parse f 8 counters_of s in
        let epochs : (i : ℕ) → i < f → ((account_of h s p r).at i).counters.epoch ≡ number32 s (i * 8 + 4) = λ i l. ap (λ x. x.counters.epoch) (within i l) ∙ epoch_at s i in
        record {
          fits = nth _ head_passes 0;
          room = omega (arith, shown_count p (count_of h) (account_of h s p r) places_shown, leb-true (count_of h) 256 (nth _ head_passes 2));
          opened = λ i l. omega (arith, epochs i l, ltb-true (closed_of h) (number32 s (i * 8 + 4)) (nth _ (stream_passes i l) 1));
          streams = λ i l. rw (within i l, ← streams_are s f i l) (rw (streams_many s f) at (streams_fit (keys_of h) (closed_of h) ss (items (count_of h) p) entries_pass i (omega (arith, streams_many s f))));
          no_fragment = λ i l. rw (le-ltb i f l);
          no_key = λ i k l. no_record i k l (ltb i f);
        }
      where
        no_record : (i k : ℕ) → keys_of h ≤ k → (b : Bool) → (if b then fragment_at h s p r i else empty).records k ≡ absent
        no_record i k l true = rw (le-ltb k (keys_of h) l)
        no_record i k l false = refl

opened : (h s p r : List ℕ) (a : Account) → view h s p r ≡ holds a → Opened h s p r × (account_of h s p r ≡ a)
unfolding view
opened h s p r a e = go (same (tag_of h) FREE) (same (tag_of h) OPEN) (fits h s p) refl refl e
  where
    go : (b c d : Bool) → same (tag_of h) OPEN ≡ c → fits h s p ≡ d → (if b then free else if c && d then holds (account_of h s p r) else damaged) ≡ holds a → Opened h s p r × (account_of h s p r ≡ a)
    go true c d x y e = no_way cc
    go false true true x y e = (record { tag = same_true (tag_of h) OPEN x; passes = y }, cc)
    go false true false x y e = no_way cc
    go false false d x y e = no_way cc

module _ (l : List ℕ) {a : Account} (e : view_lot l ≡ holds a) where
  parts : Opened (head_of l) (streams_of l) (places_of l) (records_of l) × (account_of (head_of l) (streams_of l) (places_of l) (records_of l) ≡ a)
  unfolding view_lot
  parts = opened (head_of l) (streams_of l) (places_of l) (records_of l) a e

  pub holds_shown : LotShows l a
  holds_shown = rw (← parts.1) (sections_show (head_of l) (streams_of l) (places_of l) (records_of l) parts.0)

  pub holds_well_formed : WellFormed a
  holds_well_formed = rw (← parts.1) (is_well_formed (head_of l) (streams_of l) (places_of l) (records_of l) parts.0)

-- ---- sections that show a well-formed account

module _ (h s p r : List ℕ) (a : Account) (w : Shows h s p r a) (ok : WellFormed a) where
  abbrev n : ℕ
  n = w.count

  head_fits_law : head_fits h ≡ true
  unfolding head_fits every
  head_fits_law =
      let z = w.head in
      rw (z.number, z.fragments, z.keys, z.count, ok.fits, eq-eqb (get_or h 7 0) 0 z.zero_byte, le-leb n 256 (omega (arith, ok.room, shown_count p n a w.places)))

  streams_pass : all_below (stream_fits a.closed s) a.fragments ≡ true
  unfolding stream_fits every
  streams_pass = below_of (stream_fits a.closed s) a.fragments (λ i l.
      let o : a.closed < number32 s (i * 8 + 4) = omega (arith, ok.opened i l, epoch_at s i, ap (λ x. x.epoch) (w.streams.counters i l)) in
      rw (eq-eqb (number16 s (i * 8 + 2)) 0 (w.streams.zero_bytes i l), lt-ltb a.closed (number32 s (i * 8 + 4)) o))

  pub section_fits_law : section_fits a.keys a.closed (parse a.fragments 8 counters_of s) n p ≡ true
  unfolding section_fits
  section_fits_law =
      let f = a.fragments in
      let ss = parse f 8 counters_of s in
      and w.places.plain_places
      (held_fits_law a.keys a.closed ss (items n p) (rw (streams_many s f) w.places.sorted)
      (λ i l. let m : i < f = omega (arith, streams_many s f) in rw (streams_many s f, streams_are s f i m, w.streams.counters i m, w.places.held i m) (ok.streams i m)))

  passes_all : fits h s p ≡ true
  unfolding fits every
  passes_all = rw (head_fits_law, w.head.fragments, w.head.keys, w.head.closed, w.head.count, streams_pass, section_fits_law)

  account_is : account_of h s p r ≡ a
  unfolding account_of fragment_at
  account_is = λ t. record { number = w.head.number t; fragments = w.head.fragments t; keys = w.head.keys t; closed = w.head.closed t; at = λ i. at_is i (dec_lt i a.fragments) t }
    where
      record_is : (i k : ℕ) → i < a.fragments → Dec (k < a.keys) → (if ltb k a.keys then record_at r i k else absent) ≡ (a.at i).records k
      record_is i k l (yes m) = rw (lt-ltb k a.keys m) (w.records i k l m)
      record_is i k l (no m) = rw (le-ltb k a.keys (omega arith)) (sym (ok.no_key i k (omega arith)))

      at_is : (i : ℕ) → Dec (i < a.fragments) → (account_of h s p r).at i ≡ a.at i
      at_is i (yes l) =
          rw (w.head.fragments, w.head.keys, w.head.count, lt-ltb i a.fragments l)
          (λ t. record { counters = w.streams.counters i l t; held = w.places.held i l t; records = λ k. record_is i k l (dec_lt k a.keys) t })
      at_is i (no l) = rw (w.head.fragments, le-ltb i a.fragments (omega arith)) (sym (ok.no_fragment i (omega arith)))

pub shown_view : (h s p r : List ℕ) {a : Account} → Shows h s p r a → WellFormed a → view h s p r ≡ holds a
unfolding view same
shown_view h s p r {a} w ok = rw (w.head.tag, passes_all h s p r a w ok, account_is h s p r a w ok)

pub shown_holds : (l : List ℕ) {a : Account} → LotShows l a → WellFormed a → view_lot l ≡ holds a
unfolding view_lot
shown_holds l w ok = shown_view (head_of l) (streams_of l) (places_of l) (records_of l) w ok
