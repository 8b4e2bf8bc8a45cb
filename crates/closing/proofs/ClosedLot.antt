-- An epoch that is to be closed: its sections may be closed, and then the lot holds the account with the epoch closed. Assumes nothing.
use Prim.Native.Nat.{ℕ, suc, ◌+◌, ◌*◌, ◌<◌, ◌≤◌}
use mathlib.Core.Path.{◌≡◌, refl, sym, ◌∙◌, fun_ext}
use Rattle.std.specs.Prelude.{Option}
use mathlib.Core.List.{List, [], ◌∷◌, ◌++◌, map}
use native.Mathlib.Omega.{arith}
use native.Mathlib.Decide.{dec_lt}
use lib.ListN.{length, take, drop}
use borrow.Author.Tests.{leb-true, ne_eqb}
use Rattle.model.specs.Lists.{upward}
use Rattle.model.specs.Account.{Held, Account, account_fits, held_count}
use Rattle.model.specs.Image.{Item}
use Rattle.model.specs.Closing.{close, settle, installed, listed, pieces, verdict, committed, upto, survivors, apply}
use Rattle.model.specs.Decoding.{counters_of, parse, mine}
use Rattle.model.specs.Section.{items}
use Rattle.model.proofs.Tests.{nth}
use Rattle.model.proofs.Buckets.{Rising}
use Rattle.model.proofs.Keeping.{closed_well_formed}
use Rattle.lookback.proofs.Places.{length_parse}
use Rattle.lot.specs.Layout.{SIZE, head_of, streams_of, places_of, records_of}
use Rattle.lot.specs.View.{holds, view_lot}
use Rattle.lot.specs.Head.{head_bytes}
use Rattle.lot.specs.declared.Account as numbers
use Rattle.lot.proofs.Shown.{head_shown}
use Rattle.lot.proofs.Lengths.{length_places, length_records, records_part}
use Rattle.lot.proofs.Views.{holds_shown, holds_well_formed, shown_count, section_fits_law}
use Rattle.lot.specs.Look.{Looked}
use Rattle.lot.proofs.Looked.{looked_held, known, held_most}
use Rattle.writes.specs.Sections.{WithHead}
use Rattle.writes.proofs.Parts.{places_lent, records_lent}
use Rattle.writes.proofs.Changes.{sections_hold, streams_same}
use Rattle.verdicts.specs.declared.Verdict.{Verdict}
use Rattle.survivors.specs.Left.{Left}
use Rattle.epoch.specs.Closed.{Fits, Closable, listed_in, Installed}
use Rattle.epoch.proofs.Closing.{stays_held}
use Rattle.closing.specs.Closing.{Due, RecordsInstalled, PlacesKept, closed_numbers, CloseDone}

-- ---- what may be closed

pub closes : (l : List ℕ) {n : numbers.Account} → Looked l n → Fits n.fragments n.closed n.held (places_of l)
unfolding account_fits
closes l k =
    let h = looked_held l k.seen in
    let a = h.account in
    let w = known k a h.holds_it in
    let f = holds_well_formed l h.holds_it in
    let y = holds_shown l h.holds_it in
    let c = shown_count (places_of l) y.count a y.places in
    rw w.numbers_are (record {
      keys = a.keys;
      counters = parse a.fragments 8 counters_of (streams_of l);
      few = w.few;
      small = leb-true a.keys 128 (nth _ f.fits 5);
      all = length_parse 8 counters_of a.fragments (streams_of l);
      fit = rw c (section_fits_law (head_of l) (streams_of l) (places_of l) (records_of l) a y f);
    })

pub closable : (l : List ℕ) {n : numbers.Account} (k : Looked l n) → n.closed < 4294967295 → (list : List ℕ) → 512 ≤ length list
    → Closable (places_of l) (records_of l) list n.fragments n.held n.closed
closable l k next list room =
    record { places = length_places l k.size; records = length_records l k.size; long = room; most = held_most l k; next = next; fits = closes l k }

-- ---- one section

pub records_installed : (l q : List ℕ) (size : length l ≡ SIZE) {n : numbers.Account} {h list list' : List ℕ} {p : ℕ} {verdicts : List (Option Verdict)} → length q ≡ 5120
    → Installed n.fragments n.closed n.held h (take 5120 (drop 5200 l)) q list list' p verdicts → RecordsInstalled l (take 5200 l ++ (q ++ drop 5120 (drop 5200 l))) n h list list' p verdicts
records_installed l q size long e = let w = records_lent l q size long in record { records = rw w.records w; installed = rw w.records (rw (records_part l size) at e) }

pub places_kept : (l q : List ℕ) (size : length l ≡ SIZE) {h : List ℕ} {verdicts : List (Option Verdict)} {n left : ℕ} → length q ≡ 5120
    → left ≤ n → Left q left verdicts h n → PlacesKept l (take 80 l ++ (q ++ drop 5120 (drop 80 l))) h verdicts n left
places_kept l q size long f e = let w = places_lent l q size long in record { places = rw w.places w; fewer = f; stay = rw w.places e }

-- ---- the entries of a stream that there is not

none_outside : (i n f : ℕ) (xs : List Item) → f ≤ i → Rising (λ e. e.stream) n f xs → mine i xs ≡ []
unfolding mine Rising
none_outside i n f [] h r = refl
none_outside i n f (x ∷ xs) h r = rw (ne_eqb x.stream i (λ e. omega (arith, r.1))) (none_outside i x.stream f xs h r.2)

-- ---- the lot

module _ (l : List ℕ) {n : numbers.Account} {list : List ℕ} (d : Due l n list) where
  module _ (a : Account) (v : view_lot l ≡ holds a) where
    abbrev e : ℕ
    e = suc a.closed

    abbrev here : ℕ → List Held
    here i = mine i (items (held_count a) (places_of l))

    abbrev there : ℕ → List Held
    there i = (a.at i).held

    held_same : here ≡ there
    held_same = fun_ext (λ i. go i (dec_lt i a.fragments))
      where
        go : (i : ℕ) → Dec (i < a.fragments) → mine i (items (held_count a) (places_of l)) ≡ (a.at i).held
        go i (yes q) = (known d.looked a v).places.held i q
        go i (no q) = none_outside i 0 a.fragments (items (held_count a) (places_of l)) (omega arith) (known d.looked a v).places.sorted ∙ rw ((holds_well_formed l v).no_fragment i (omega arith))

    listed_same : listed_in (places_of l) (held_count a) (suc a.closed) a.fragments ≡ listed a
    unfolding listed_in listed installed
    listed_same = λ t. upward a.fragments 0 (λ i. map (λ x. record { fragment = i; transaction = x }) (pieces (verdict (committed e (held_same t)) (upto e (held_same t i))) (upto e (held_same t i))))

  pub close_done : (l₁ l₂ l₃ list' : List ℕ) (verdicts : List (Option Verdict)) (p left : ℕ) → RecordsInstalled l l₁ n (places_of l) list list' p verdicts → PlacesKept l₁ l₂ (places_of l) verdicts n.held left
      → WithHead l₂ l₃ (head_bytes (closed_numbers n left)) → CloseDone l l₃ list list' p
  unfolding close settle account_fits
  close_done l₁ l₂ l₃ list' verdicts p left s c h a v =
      let w = known d.looked a v in
      let y = holds_shown l v in
      let f = holds_well_formed l v in
      let x = rw w.numbers_are at s.installed in
      let k = rw w.numbers_are at (stays_held (closes l d.looked) verdicts s.installed.verdicts c.stay) in
      let z : a.closed + 1 ≡ suc a.closed = omega arith in
      let m : 2 * p ≡ p * 2 = omega arith in
      let u = leb-true a.keys 128 (nth _ f.fits 5) in
      let g = held_same a v in
      record {
        counted = x.counted ∙ rw (listed_same a v);
        list_is = rw (m, ← listed_same a v) x.listed;
        view = sections_hold
            (record { head = h.head ∙ rw (w.numbers_are, z); streams = h.streams ∙ c.places.streams ∙ s.records.streams; places = h.places; records = h.records ∙ c.places.records })
            (record {
              count = left;
              head = head_shown left (close a);
              streams = streams_same a (close a) refl (λ i. refl) w.streams;
              places = record {
                held = λ i q. k.held i ∙ (λ t. survivors (suc a.closed) (verdict (committed (suc a.closed) (g t)) (upto (suc a.closed) (g t i))) (g t i));
                sorted = k.sorted;
                plain_places = k.plain_places;
              };
              records = λ i j q o. x.records i j q (omega arith) ∙ (λ t. apply (pieces (verdict (committed (suc a.closed) (g t)) (upto (suc a.closed) (g t i))) (upto (suc a.closed) (g t i))) j (upto (suc a.closed) (g t i)) (y.records i j q o t));
            })
            (closed_well_formed f (sym (d.marked a v)));
      }
