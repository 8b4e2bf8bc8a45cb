-- The sections of an image pass their tests exactly if their zero bytes are zero and what they show fits; then they are its bytes. Assumes nothing.
use Prim.Native.Nat.{ℕ, ◌+◌, ◌*◌, ◌-◌, ◌<◌, ◌≤◌}
use mathlib.Core.Path.{◌≡◌, sym, ap, ◌∙◌}
use mathlib.Core.Bool.{Bool, true, ◌&&◌}
use mathlib.Core.List.{List, [], ◌++◌}
use native.Mathlib.Omega.{arith}
use lib.Dec.{leb, ltb}
use lib.ListN.{length, get_or, take, drop, length-drop, take-append-drop}
use lib.Seq.{take-add, length-take-le}
use borrow.Author.Tests.{eqb-true, eq-eqb, leb-true}
use Rattle.wire.specs.Numbers.{number16, number32}
use Rattle.model.specs.Lists.{every, all}
use Rattle.model.specs.Account.{account_fits}
use Rattle.model.specs.Image.{Form, trailer24, body, bytes}
use Rattle.model.specs.Decoding.{counters_of, present_of, item_of, parse, records_fit, held_fits, form_fits}
use Rattle.model.specs.Section.{plain, section_fits}
use Rattle.model.specs.declared.Counters.{Counters}
use Rattle.model.proofs.Tests.{and_l, and_r, nth}
use Rattle.model.proofs.Buckets.{all_in, all_of}
use Rattle.lookback.proofs.Places.{length_parse}
use Rattle.lot.specs.View.{stream_fits, all_below}
use Rattle.lot.proofs.Views.{below_in, below_of, epoch_at}
use Rattle.trailer.specs.Trailer.{trailer_bytes, image_length}
use Rattle.trailer.specs.declared.Trailer.{Trailer}
use Rattle.judging.specs.Judging.{plain_record, record_fits, sections_fit}
use Rattle.judging.proofs.Parts.{Bytes, bytes_drop, parse_singles, streams_sound, records_sound, held_sound}
use Rattle.judging.proofs.Records.{records_split, plain_passes}
use Rattle.judging.proofs.Trailers.{form_numbers, trailer_is}

-- what the test of a form says
module _ (x : Form) (w : form_fits x ≡ true) where
  pub account_fits_law : account_fits x.number (length x.streams) x.keys ≡ true
  unfolding form_fits
  account_fits_law = nth _ w 0

  pub few_held : leb (length x.held) 256 ≡ true
  unfolding form_fits
  few_held = nth _ w 1

  epochs_fit : all (λ s. ltb x.closed s.epoch) x.streams ≡ true
  unfolding form_fits
  epochs_fit = nth _ w 2

  records_fit_law : records_fit (length x.streams) x.keys 0 x.records ≡ true
  unfolding form_fits
  records_fit_law = nth _ w 3

  pub held_fit : held_fits x.keys x.closed x.streams [] x.held ≡ true
  unfolding form_fits
  held_fit = nth _ w 4

few_keys : (number f k : ℕ) → account_fits number f k ≡ true → k ≤ 128
unfolding account_fits
few_keys number f k w = leb-true k 128 (nth _ w 5)

-- the open epochs of the first n streams, each above c
module _ (c n : ℕ) (b : List ℕ) where
  abbrev above : Counters → Bool
  above s = ltb c s.epoch

  epochs_in : all above (parse n 8 counters_of b) ≡ true → (i : ℕ) → i < n → ltb c (number32 b (i * 8 + 4)) ≡ true
  epochs_in w i h = rw (← epoch_at b i) (all_in (λ i. counters_of (drop (i * 8) b)) above n 0 (sym (ap (all above) (parse_singles 8 counters_of n b)) ∙ w) i (omega arith) (omega arith))

  epochs_of : ((i : ℕ) → i < n → ltb c (number32 b (i * 8 + 4)) ≡ true) → all above (parse n 8 counters_of b) ≡ true
  epochs_of w = ap (all above) (parse_singles 8 counters_of n b) ∙ all_of (λ i. counters_of (drop (i * 8) b)) above n 0 (λ i l u. rw (epoch_at b i) (w i (omega arith)))

module _ (t : Trailer) (b : List ℕ) where
  abbrev records : List ℕ
  records = drop (t.account.fragments * 8) b

  abbrev places : List ℕ
  places = drop (t.records * 8) records

  -- what the image shows by these numbers
  abbrev pub shown_by : Form
  shown_by = record { number = t.account.number; keys = t.account.keys; closed = t.account.closed; streams = parse t.account.fragments 8 counters_of b; records = parse t.records 8 present_of records; held = parse t.account.held 20 item_of places }

  pub record Plain : Type 0 where
    pub of_streams : (i : ℕ) → i < t.account.fragments → number16 b (i * 8 + 2) ≡ 0
    pub of_records : (i : ℕ) → i < t.records → get_or records (i * 8 + 1) 0 ≡ 0
    pub of_places : plain t.account.held places ≡ true

  module _ (w : sections_fit t b ≡ true) where
    streams_pass : (i : ℕ) → i < t.account.fragments → stream_fits t.account.closed b i ≡ true
    unfolding sections_fit
    streams_pass = below_in (stream_fits t.account.closed b) t.account.fragments (nth _ w 0)

    records_pass : all_below (record_fits t.account.fragments t.account.keys records) t.records ≡ true
    unfolding sections_fit
    records_pass = nth _ w 1

    held_pass : (plain t.account.held places && held_fits t.account.keys t.account.closed shown_by.streams [] shown_by.held) ≡ true
    unfolding sections_fit section_fits
    held_pass = nth _ w 2

    epochs_pass : (i : ℕ) → i < t.account.fragments → ltb t.account.closed (number32 b (i * 8 + 4)) ≡ true
    unfolding stream_fits
    epochs_pass i h = nth _ (streams_pass i h) 1

    pub sections_plain : Plain
    unfolding stream_fits
    sections_plain = record {
      of_streams = λ i h. eqb-true (number16 b (i * 8 + 2)) 0 (nth _ (streams_pass i h) 0);
      of_records = λ i h. eqb-true (get_or records (i * 8 + 1) 0) 0 (plain_passes t.account.fragments t.account.keys records t.records records_pass i h);
      of_places = and_l _ _ held_pass;
    }

    pub sections_form : account_fits t.account.number t.account.fragments t.account.keys ≡ true → leb t.account.held 256 ≡ true → form_fits shown_by ≡ true
    unfolding form_fits every
    sections_form a h =
        let o : all (λ s. ltb t.account.closed s.epoch) shown_by.streams ≡ true = epochs_of t.account.closed t.account.fragments b epochs_pass in
        let r : records_fit t.account.fragments t.account.keys 0 shown_by.records ≡ true = and_r (all_below (plain_record records) t.records) _ (sym (records_split t.account.fragments t.account.keys (few_keys _ _ _ a) records t.records) ∙ records_pass) in
        rw (length_parse 8 counters_of t.account.fragments b, length_parse 20 item_of t.account.held places, a, h, o, r, and_r (plain t.account.held places) _ held_pass)

  pub form_sections : Plain → form_fits shown_by ≡ true → sections_fit t b ≡ true
  unfolding sections_fit section_fits stream_fits every
  form_sections p w =
      let s : all_below (stream_fits t.account.closed b) t.account.fragments ≡ true = below_of (stream_fits t.account.closed b) t.account.fragments (λ i h. rw (eq-eqb (number16 b (i * 8 + 2)) 0 (p.of_streams i h), epochs_in t.account.closed t.account.fragments b (epochs_fit shown_by w) i h)) in
      let z : all_below (plain_record records) t.records ≡ true = below_of (plain_record records) t.records (λ i h. eq-eqb (get_or records (i * 8 + 1) 0) 0 (p.of_records i h)) in
      let fits : account_fits t.account.number t.account.fragments t.account.keys ≡ true = rw (length_parse 8 counters_of t.account.fragments b) at (account_fits_law shown_by w) in
      let q : records_fit t.account.fragments t.account.keys 0 shown_by.records ≡ true = rw (length_parse 8 counters_of t.account.fragments b) at (records_fit_law shown_by w) in
      let r : all_below (record_fits t.account.fragments t.account.keys records) t.records ≡ true = records_split t.account.fragments t.account.keys (few_keys _ _ _ fits) records t.records ∙ rw (z, q) in
      rw (s, r, p.of_places, held_fit shown_by w)

  -- ---- the bytes

  pub numbers_shown : form_numbers shown_by t.length ≡ t
  numbers_shown = λ i. record {
    account = record {
      number = t.account.number;
      fragments = length_parse 8 counters_of t.account.fragments b i;
      keys = t.account.keys;
      held = length_parse 20 item_of t.account.held places i;
      closed = t.account.closed;
    };
    records = length_parse 8 present_of t.records records i;
    length = t.length;
  }

  glue : (x y z n : ℕ) (q : List ℕ) (T : ℕ → List ℕ) → n ≡ x + y + z + 24 → length b ≡ n → drop (n - 24) b ≡ q → T n ≡ q
      → take x b ++ (take y (drop x b) ++ take z (drop y (drop x b))) ++ T (length (take x b ++ (take y (drop x b) ++ take z (drop y (drop x b)))) + 24) ≡ b
  glue x y z n q T e l d w =
      let k : x + (y + z) + 24 ≡ n = omega arith in
      let m : x + (y + z) ≡ n - 24 = omega arith in
      let v : length (take (x + (y + z)) b) ≡ x + (y + z) = length-take-le (x + (y + z)) b (omega arith) in
      rw (← take-add y z (drop x b), ← take-add x (y + z) b, v, k, w, m, ← d) (take-append-drop (n - 24) b)

  pub sections_bytes : Bytes b → t.length ≡ image_length t.account.fragments t.records t.account.held → length b ≡ t.length → drop (t.length - 24) b ≡ trailer_bytes t → Plain → bytes shown_by ≡ b
  unfolding bytes body
  sections_bytes bb e lb d p =
      let l1 : length records ≡ length b - t.account.fragments * 8 = length-drop (t.account.fragments * 8) b in
      let l2 : length places ≡ length records - t.records * 8 = length-drop (t.records * 8) records in
      let b1 = bytes_drop (t.account.fragments * 8) b bb in
      rw (streams_sound t.account.fragments b bb (omega arith) p.of_streams, records_sound t.records records b1 (omega arith) p.of_records, held_sound t.account.held places (bytes_drop (t.records * 8) records b1) (omega arith) p.of_places)
      (glue (t.account.fragments * 8) (t.records * 8) (t.account.held * 20) t.length (trailer_bytes t) (trailer24 shown_by) e lb d (trailer_is shown_by t.length ∙ ap trailer_bytes numbers_shown))
