-- The sections of a lot and the trailer behind them are the image of the account that the lot holds. Assumes nothing.
use Prim.Native.Nat.{ℕ, zero, suc, ◌+◌, ◌*◌, ◌-◌, ◌/◌, ◌≤◌}
use mathlib.Core.Path.{◌≡◌, sym, ap, ◌∙◌}
use mathlib.Core.List.{List, [], ◌∷◌, ◌++◌, map, append_assoc}
use native.Mathlib.Omega.{arith}
use lib.ListN.{length, take, drop, length-append}
use lib.Seq.{length-take-le}
use borrow.Author.Tests.{leb-true}
use Rattle.model.specs.Lists.{upward}
use Rattle.model.specs.Account.{Account, account_fits, held_count}
use Rattle.model.specs.Accepting.{WellFormed}
use Rattle.model.specs.Image.{shown, form, stream8, record8, held20, each, trailer24, body, bytes, image}
use Rattle.model.specs.Decoding.{counters_of, parse, mine}
use Rattle.model.specs.Section.{items}
use Rattle.model.proofs.Tests.{nth}
use Rattle.model.proofs.Buckets.{upward_cong}
use Rattle.model.proofs.Shows.{item, by_streams}
use Rattle.model.proofs.Decode.{trailer_long, length_bytes, length_form}
use Rattle.model.proofs.Forms.{streams_length, held_length}
use Rattle.lot.specs.Layout.{SIZE, streams_of, places_of, records_of}
use Rattle.lot.specs.View.{holds, view_lot, record_at}
use Rattle.lot.specs.Head.{numbers_with}
use Rattle.lot.specs.Look.{look_of}
use Rattle.lot.specs.declared.Look.TheVariants.{Holds}
use Rattle.lot.specs.declared.Account as numbers
use Rattle.lot.proofs.Shown.{LotShows}
use Rattle.lot.proofs.Views.{shown_count, holds_shown, holds_well_formed}
use Rattle.lot.proofs.Looked.{looked_held}
use Rattle.lot.proofs.Lengths.{length_streams, length_places}
use Rattle.trailer.specs.Trailer.{trailer_bytes}
use Rattle.trailer.specs.declared.Trailer.{Trailer}
use Rattle.judging.proofs.Parts.{Bytes, bytes_drop, parse_singles, streams_sound, held_sound}
use Rattle.judging.proofs.Trailers.{trailer_is}
use Rattle.image.specs.Saving.{Written, SectionsSaved, record_bytes, section_bytes, trailer_behind, SavedAs, LotSaved}
use Rattle.image.proofs.Writing.{write_more}

bytes_take : (n : ℕ) (l : List ℕ) → Bytes l → Bytes (take n l)
bytes_take zero l b i = omega arith
bytes_take (suc n) [] b i = omega arith
bytes_take (suc n) (x ∷ l) b zero = b 0
bytes_take (suc n) (x ∷ l) b (suc i) = bytes_take n l (λ j. b (suc j)) i

-- ---- the numbers that a look found

abbrev pub numbers_in : Account → numbers.Account
numbers_in a = numbers_with (held_count a) a

module _ (l : List ℕ) (n : numbers.Account) (e : look_of l ≡ Holds n) where
  pub looked_numbers : {a : Account} → view_lot l ≡ holds a → n ≡ numbers_in a
  looked_numbers {a} v = let w = looked_held l e in let q : w.account ≡ a = cc w.holds_it in w.numbers ∙ ap numbers_in q

  pub few : (n.fragments ≤ 8) × (n.keys ≤ 128) × (n.held ≤ 256)
  unfolding account_fits
  few =
      let w = looked_held l e in
      let ok = holds_well_formed l w.holds_it in
      rw w.numbers (leb-true w.account.fragments 8 (nth _ ok.fits 3), leb-true w.account.keys 128 (nth _ ok.fits 5), ok.room)

-- ---- the sections, and the trailer behind them

module _ (l : List ℕ) {a : Account} (v : view_lot l ≡ holds a) (size : length l ≡ SIZE) (b : Bytes l) where
  abbrev shows : LotShows l a
  shows = holds_shown l v

  ok : WellFormed a
  ok = holds_well_formed l v

  streams_are : each stream8 (form a).streams ≡ take (a.fragments * 8) (streams_of l)
  unfolding form account_fits
  streams_are =
      let s = streams_of l in
      let q : upward a.fragments 0 (λ i. (a.at i).counters ∷ []) ≡ parse a.fragments 8 counters_of s =
      upward_cong a.fragments 0 (λ i. (a.at i).counters ∷ []) (λ i. counters_of (drop (i * 8) s) ∷ []) (λ i u h. ap (λ c. c ∷ []) (sym (shows.streams.counters i (omega arith))))
      ∙ sym (parse_singles 8 counters_of a.fragments s) in
      rw q (streams_sound a.fragments s (bytes_take 64 (drop 16 l) (bytes_drop 16 l b)) (omega (arith, leb-true a.fragments 8 (nth _ ok.fits 3), length_streams l size)) shows.streams.zero_bytes)

  records_are : each record8 (form a).records ≡ record_bytes (records_of l) a.keys a.fragments
  unfolding form record_bytes
  records_are =
      ap (each record8) (upward_cong a.fragments 0 _ _ (λ i u h. upward_cong a.keys 0 (λ k. shown i k ((a.at i).records k)) (λ k. shown i k (record_at (records_of l) i k))
      (λ k w g. ap (shown i k) (sym (shows.records i k (omega arith) (omega arith))))))

  held_are : each held20 (form a).held ≡ take (held_count a * 20) (places_of l)
  unfolding form
  held_are =
      let p = places_of l in
      let c = shows.count in
      let e = shown_count p c a shows.places in
      let q : upward a.fragments 0 (λ i. map (item i) (a.at i).held) ≡ items c p =
      upward_cong a.fragments 0 (λ i. map (item i) (a.at i).held) (λ i. map (item i) (mine i (items c p))) (λ i u h. ap (map (item i)) (sym (shows.places.held i (omega arith))))
      ∙ by_streams a.fragments (items c p) shows.places.sorted in
      rw (q, e) (held_sound c p (bytes_take 5120 (drop 80 l) (bytes_drop 80 l b)) (omega (arith, e, ok.room, length_places l size)) shows.places.plain_places)

  module _ {m m' : List ℕ} {end : ℕ} (w : SectionsSaved l (numbers_in a) m m' end) where
    body_is : Written m m' 0 end (body (form a))
    unfolding body
    body_is = rw (streams_are, records_are, held_are) w.bytes

    trailer_behind_law : trailer_bytes (trailer_behind (numbers_in a) end) ≡ trailer24 (form a) (length (body (form a)) + 24)
    unfolding trailer_behind trailer_bytes form
    trailer_behind_law =
        let x = form a in
        let many : length x.records ≡ (end - (a.fragments * 8 + held_count a * 20)) / 8 = omega (arith, body_is.behind, length_bytes x, length_form x, streams_length a, held_length a) in
        let whole : length (body x) + 24 ≡ end + 24 = omega (arith, body_is.behind) in
        sym (trailer_is x (length (body x) + 24)
        ∙ ap trailer_bytes (λ i. record {
          account = record { number = a.number; fragments = streams_length a i; keys = a.keys; held = held_length a i; closed = a.closed };
          records = many i;
          length = whole i;
        }))

    image_saved : {m'' q : List ℕ} {e : ℕ} → Written m' m'' end e q → q ≡ trailer_bytes (trailer_behind (numbers_in a) end) → SavedAs m m'' (end + 24) a
    unfolding image bytes
    image_saved {q = q} {e = e} w behind =
        let x = form a in
        let z : q ≡ trailer24 x (length (body x) + 24) = behind ∙ trailer_behind_law in
        let whole : e ≡ end + 24 = w.behind ∙ ap (λ n. end + n) (ap length z ∙ trailer_long x (length (body x) + 24)) in
        let all = write_more m 0 (omega arith) body_is w in
        let o : 0 + length (image a) ≡ length (image a) = omega arith in
        record { answer = sym whole ∙ all.behind ∙ rw z o; bytes = all.bytes ∙ rw z (ap (λ n. image a ++ drop n m) o) }

pub lot_saved : (l : List ℕ) (n : numbers.Account) {m m' m'' q : List ℕ} {end e : ℕ} (t : Trailer) → look_of l ≡ Holds n → length l ≡ SIZE → Bytes l → SectionsSaved l n m m' end → Written m' m'' end e q → t ≡ trailer_behind n end → q ≡ trailer_bytes t
    → {out : List ℕ} → out ≡ m'' → LotSaved l m out t.length
unfolding trailer_behind
lot_saved l n {end = end} t look size b w last et eq left a v =
    let e = looked_numbers l n look v in
    rw (left, et) (image_saved l v size b (rw e at w) last (eq ∙ ap trailer_bytes (et ∙ ap (λ n. trailer_behind n end) e)))

pub sections_written : {m m₁ m₂ m₃ : List ℕ} {at i j k : ℕ} {s x p : List ℕ} → at ≤ length m → Written m m₁ at i s → Written m₁ m₂ i j x → Written m₂ m₃ j k p → Written m m₃ at k (s ++ (x ++ p))
sections_written {m = m} {at = at} {s = s} {x = x} {p = p} h u v w = rw (← append_assoc s x p) (write_more m at h (write_more m at h u v) w)

pub sections_saved : {l m m' : List ℕ} {n : numbers.Account} {end : ℕ} → Written m m' 0 end (section_bytes l n) → end ≤ 13376 → SectionsSaved l n m m' end
sections_saved w h = record { bytes = w; short = h }

pub room_before : (l : List ℕ) (n : numbers.Account) {m m' : List ℕ} {end : ℕ} → length l ≡ SIZE → n.fragments ≤ 8 → n.held ≤ 256 → SectionsSaved l n m m' end → n.fragments * 8 + n.held * 20 ≤ end
room_before l n size f h w =
    let s = take (n.fragments * 8) (streams_of l) in
    let x = record_bytes (records_of l) n.keys n.fragments in
    let p = take (n.held * 20) (places_of l) in
    omega (arith, w.bytes.behind, length-append s (x ++ p), length-append x p, length-take-le (n.fragments * 8) (streams_of l) (omega (arith, length_streams l size)), length-take-le (n.held * 20) (places_of l) (omega (arith, length_places l size)))
