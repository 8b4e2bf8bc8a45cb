-- A lot into which an accepted image is loaded holds the account that the data show. Assumes nothing.
use Rattle.std.specs.Prelude.{Some}
use Prim.Native.Nat.{ℕ, ◌*◌, ◌-◌, ◌<◌, ◌≤◌}
use mathlib.Core.Path.{◌≡◌, sym, ap, subst, ◌∙◌}
use mathlib.Core.Bool.{true}
use mathlib.Core.List.{List, ◌++◌}
use native.Mathlib.Omega.{arith}
use lib.ListN.{length, take, drop, length-drop}
use lib.Seq.{drop-drop}
use borrow.Author.Tests.{leb-true, ltb-true}
use Rattle.model.specs.Account.{Account, account_fits}
use Rattle.model.specs.Image.{Form, stream8, held20, each}
use Rattle.model.specs.Decoding.{counters_of, item_of, parse, mine, account, form_fits, last_of}
use Rattle.model.specs.Section.{items}
use Rattle.model.proofs.Tests.{nth}
use Rattle.model.proofs.ByStream.{held_sorted}
use Rattle.model.proofs.Decode.{stream_long, stream_back, item_long, item_back, parse_each}
use Rattle.model.proofs.Image.{well_formed}
use Rattle.lookback.proofs.Places.{length_parse}
use Rattle.lot.specs.Layout.{streams_of, places_of}
use Rattle.lot.specs.Head.{numbers_with, head_bytes}
use Rattle.lot.specs.declared.Account.{Account as Numbers}
use Rattle.lot.specs.View.{holds, view_lot}
use Rattle.lot.proofs.Shown.{HeadShows, StreamsShow, PlacesShow, head_shown}
use Rattle.lot.proofs.Views.{below_in, streams_are}
use Rattle.writes.specs.Sections.{overwritten}
use Rattle.writes.proofs.Changes.{sections_hold}
use Rattle.trailer.specs.Trailer.{trailer_fits}
use Rattle.trailer.specs.declared.Trailer.{Trailer}
use Rattle.judging.specs.Judging.{judged_of, present_at, record_fits, sections_fit}
use Rattle.judging.proofs.Parts.{Bytes, bytes_drop, streams_sound, held_sound, streams_plain, held_plain}
use Rattle.judging.proofs.Sections.{account_fits_law, held_fit, shown_by, Plain, sections_plain}
use Rattle.judging.proofs.Passing.{Passes, last_numbers, last_image, agrees, within, long_image, part_from, part_from_law, loaded, form_passes, accepted_passes, accepted_numbers}
use Rattle.image.specs.Loading.{Loadable, ImageLoaded, LotLoaded}
use Rattle.image.proofs.Putting.{found_as_put}

module _ (t : Trailer) (b : List ℕ) (bb : Bytes b) (w : form_fits (shown_by t b) ≡ true) (p : Plain t b) (can : Loadable t b) where
  abbrev x : Form
  x = shown_by t b

  abbrev a : Account
  a = account x

  abbrev f : ℕ
  f = t.account.fragments

  abbrev records : List ℕ
  records = drop (f * 8) b

  abbrev places : List ℕ
  places = drop (t.records * 8) records

  streams_shown : (rest : List ℕ) → StreamsShow (overwritten (take (f * 8) b) rest) a
  unfolding account
  streams_shown rest =
      let ss = x.streams in
      let n = length_parse 8 counters_of f b in
      let e : take (f * 8) b ≡ each stream8 ss = sym (streams_sound f b bb (omega (arith, can.long)) p.of_streams) in
      rw e
      (let y = drop (length (each stream8 ss)) rest in
      let back : parse f 8 counters_of (each stream8 ss ++ y) ≡ ss = rw n at (parse_each stream8 8 stream_long counters_of stream_back ss y) in
      record {
        counters = λ i h. sym (streams_are (each stream8 ss ++ y) f i (omega (arith, n))) ∙ rw back;
        zero_bytes = λ i h. streams_plain y ss i h;
      })

  places_shown : (rest : List ℕ) → PlacesShow (overwritten (take (t.account.held * 20) places) rest) t.account.held a
  unfolding account
  places_shown rest =
      let es = x.held in
      let n = length_parse 20 item_of t.account.held places in
      let e : take (t.account.held * 20) places ≡ each held20 es = sym (held_sound t.account.held places (bytes_drop (t.records * 8) records (bytes_drop (f * 8) b bb)) (omega (arith, can.long, length-drop (t.records * 8) records, length-drop (f * 8) b)) p.of_places) in
      rw e
      (let y = drop (length (each held20 es)) rest in
      let back : items t.account.held (each held20 es ++ y) ≡ es = rw n at (parse_each held20 20 item_long item_of item_back es y) in
      record {
        held = λ i h. ap (mine i) back;
        sorted = rw back (held_sorted x.keys x.closed x.streams es (held_fit x w));
        plain_places = rw n at (held_plain y es);
      })

  few_keys : t.account.keys ≤ 128
  unfolding account_fits
  few_keys = leb-true t.account.keys 128 (nth _ (account_fits_law x w) 5)

  image_holds : (l m : List ℕ) → ImageLoaded l m t b → view_lot m ≡ holds a
  unfolding account
  image_holds l m d =
      let q : numbers_with t.account.held a ≡ t.account = λ i. record { number = t.account.number; fragments = length_parse 8 counters_of f b i; keys = t.account.keys; held = t.account.held; closed = t.account.closed } in
      sections_hold d.sections
      (record {
        count = t.account.held;
        head = let P : Numbers → Type 0 = λ n. HeadShows (head_bytes n) t.account.held a in subst P q (head_shown t.account.held a);
        streams = streams_shown (streams_of l);
        places = rw (← drop-drop (t.records * 8) (f * 8) b) (places_shown (places_of l));
        records = λ i k hi hk. found_as_put d.cleared d.zeros d.sized t.records records (bytes_drop (f * 8) b bb) can.small_records i k (omega (arith, few_keys));
      })
      (well_formed x w)

-- ---- accepted data

module _ (l : List ℕ) (bl : Bytes l) (p : Passes l) where
  abbrev numbers : Trailer
  numbers = last_numbers l

  account_passes : account_fits numbers.account.number numbers.account.fragments numbers.account.keys ≡ true
  unfolding trailer_fits
  account_passes = nth _ p.trailer 2

  held_passes : numbers.account.held ≤ 256
  unfolding trailer_fits
  held_passes = leb-true numbers.account.held 256 (nth _ p.trailer 3)

  records_pass : (i : ℕ) → i < numbers.records → record_fits numbers.account.fragments numbers.account.keys (drop (numbers.account.fragments * 8) (last_image l)) i ≡ true
  unfolding sections_fit
  records_pass = below_in (record_fits numbers.account.fragments numbers.account.keys (drop (numbers.account.fragments * 8) (last_image l))) numbers.records (nth _ p.sections 1)

  loadable : Loadable numbers (last_image l)
  unfolding account_fits record_fits
  loadable =
      let s = drop (numbers.account.fragments * 8) (last_image l) in
      let f = leb-true numbers.account.fragments 8 (nth _ account_passes 3) in
      let k = leb-true numbers.account.keys 128 (nth _ account_passes 5) in
      record {
        long = long_image l bl p ∙ agrees l bl p;
        few_fragments = f;
        few_held = held_passes;
        small_records = λ i h. record {
          fragment = omega (arith, ltb-true (present_at s i).fragment numbers.account.fragments (nth _ (records_pass i h) 1));
          key = omega (arith, ltb-true (present_at s i).key numbers.account.keys (nth _ (records_pass i h) 2));
        };
      }

  lot_loaded : (l₀ m : List ℕ) → ImageLoaded l₀ m numbers (last_image l) → LotLoaded l m
  unfolding last_of
  lot_loaded l₀ m d a e =
      let b = last_image l in
      let v = image_holds numbers b (bytes_drop (length l - numbers.length) l bl) (form_passes l bl p) (sections_plain numbers b p.sections) loadable l₀ m d in
      let q = loaded l bl p in
      cc

module _ (l : List ℕ) (bl : Bytes l) (t : Trailer) (e : judged_of l ≡ Some t) where
  abbrev part : List ℕ
  part = part_from l (length l - t.length)

  part_is : part ≡ last_image l
  unfolding last_of
  part_is = part_from_law l (length l - t.length) ∙ rw (accepted_numbers l t bl e)

  pub can_load : (t.length ≤ length l) × Loadable t part
  can_load = let p = accepted_passes l t e in rw (part_is, accepted_numbers l t bl e) (within l bl p, loadable l bl p)

  pub data_loaded : (l₀ m : List ℕ) → ImageLoaded l₀ m t part → LotLoaded l m
  data_loaded l₀ m d = lot_loaded l bl (accepted_passes l t e) l₀ m (rw (part_is, accepted_numbers l t bl e) at d)
