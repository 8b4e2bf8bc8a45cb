-- Data pass the tests of judging exactly if the model's load accepts them, and then the trailer has the account's numbers. Assumes nothing.
use Rattle.std.specs.Prelude.{Option, Some, None}
use Rattle.std.specs.Bool.{then_some}
use Prim.Native.Nat.{ℕ, ◌+◌, ◌*◌, ◌-◌, ◌<◌, ◌≤◌}
use mathlib.Core.Path.{◌≡◌, refl, sym, ap, ◌∙◌}
use mathlib.Core.Bool.{Bool, true, false, and-true}
use mathlib.Core.List.{List, ◌++◌, append_assoc}
use native.Mathlib.Omega.{arith}
use lib.ListN.{length, get_or, take, drop, length-append, length-drop, take-append-drop}
use lib.Seq.{drop-drop, take_all}
use borrow.Author.Tests.{eqb-true, eq-eqb, leb-true, le-leb}
use Rattle.wire.specs.Numbers.{number16}
use Rattle.model.specs.Lists.{every}
use Rattle.model.specs.Account.{Account}
use Rattle.model.specs.Image.{Form, form, stream8, record8, held20, each, trailer24, body, bytes, image}
use Rattle.model.specs.Section.{section_fits}
use Rattle.lot.specs.View.{stream_fits, all_below}
use Rattle.model.specs.Decoding.{counters_of, parse, last_of, decode_with, account, form_fits, load}
use Rattle.model.proofs.Tests.{no_way, nth}
use Rattle.model.proofs.Decode.{trailer_last, last_of_law, length_bytes, length_form, with_trailer, past_streams, drop_each, record_long}
use Rattle.model.proofs.Forms.{held_length}
use Rattle.model.proofs.Image.{loads_exactly, form_account, form_fits_law, well_formed}
use Rattle.trailer.specs.Trailer.{numbers_of, trailer_bytes, signed, image_length, trailer_fits}
use Rattle.trailer.specs.declared.Trailer.{Trailer}
use Rattle.judging.specs.Judging.{trailer_of, judged_as, judged_of, record_fits, sections_fit}
use Rattle.judging.proofs.Parts.{Bytes, bytes_drop, streams_plain, records_plain, held_plain}
use Rattle.judging.proofs.Trailers.{form_numbers, trailer_is, numbers_back, trailer_signed, trailer_zeros, bytes_back}
use Rattle.judging.proofs.Sections.{account_fits_law, few_held, shown_by, Plain, sections_plain, sections_form, form_sections, sections_bytes, numbers_shown}

-- the numbers in the last 24 bytes, and as many last bytes as they say
abbrev pub last_numbers : List ℕ → Trailer
last_numbers l = numbers_of (last_of 24 l)

abbrev pub last_image : List ℕ → List ℕ
last_image l = last_of (last_numbers l).length l

pub record Passes (l : List ℕ) : Type 0 where
  pub long : 24 ≤ length l
  pub is_signed : signed (last_of 24 l) ≡ true
  pub trailer : trailer_fits (length l) (last_of 24 l) ≡ true
  pub sections : sections_fit (last_numbers l) (last_image l) ≡ true

-- ---- what passes is accepted

account_numbers : (x : Form) → form_fits x ≡ true → trailer_of (account x) ≡ form_numbers x (length (bytes x))
unfolding trailer_of image account
account_numbers x w =
    let a = account x in
    let e = form_account x w in
    λ i. record {
      account = record {
        number = x.number;
        fragments = length x.streams;
        keys = x.keys;
        held = (sym (held_length a) ∙ ap (λ y. length y.held) e) i;
        closed = x.closed;
      };
      records = length (e i).records;
      length = length (bytes (e i));
    }

module _ (l : List ℕ) (bl : Bytes l) (p : Passes l) where
  abbrev m : List ℕ
  m = last_of 24 l

  abbrev t : Trailer
  t = last_numbers l

  abbrev b : List ℕ
  b = last_image l

  pub agrees : t.length ≡ image_length t.account.fragments t.records t.account.held
  unfolding trailer_fits
  agrees = eqb-true _ _ (nth _ p.trailer 4)

  pub within : t.length ≤ length l
  unfolding trailer_fits
  within = leb-true _ _ (nth _ p.trailer 5)

  pub long_image : length b ≡ t.length
  unfolding last_of
  long_image = omega (arith, length-drop (length l - t.length) l, within)

  ends_with : drop (t.length - 24) b ≡ trailer_bytes t
  unfolding last_of trailer_fits
  ends_with =
      let n = nth _ p.trailer in
      let z : length l - t.length + (t.length - 24) ≡ length l - 24 = omega (arith, agrees, within) in
      drop-drop (t.length - 24) (length l - t.length) l ∙ rw z (sym (bytes_back m (bytes_drop (length l - 24) l bl) (omega (arith, length-drop (length l - 24) l, p.long)) p.is_signed (eqb-true (get_or m 3 0) 0 (n 0)) (eqb-true (number16 m 10) 0 (n 1))))

  pub form_passes : form_fits (shown_by t b) ≡ true
  unfolding trailer_fits
  form_passes = sections_form t b p.sections (nth _ p.trailer 2) (nth _ p.trailer 3)

  bytes_are : bytes (shown_by t b) ≡ b
  unfolding last_of
  bytes_are = sections_bytes t b (bytes_drop (length l - t.length) l bl) agrees long_image ends_with (sections_plain t b p.sections)

  pub loaded : load l ≡ Some (account (shown_by t b))
  unfolding image last_of
  loaded =
      let x = shown_by t b in
      let front = take (length l - t.length) l in
      let i : image (account x) ≡ b = ap bytes (form_account x form_passes) ∙ bytes_are in
      (loads_exactly l (account x)).1 (record { well_formed = well_formed x form_passes; front = front; ends = sym (take-append-drop (length l - t.length) l) ∙ ap (λ r. front ++ r) (sym i) })

  numbers_are : trailer_of (account (shown_by t b)) ≡ t
  numbers_are = account_numbers (shown_by t b) form_passes ∙ ap (λ n. form_numbers (shown_by t b) n) (ap length bytes_are ∙ long_image) ∙ numbers_shown t b

  pub passed : Some t ≡ judged_of l
  unfolding judged_of
  passed = rw loaded (ap Some (sym numbers_are))

-- ---- what is accepted passes

module _ (x : Form) (w : form_fits x ≡ true) where
  abbrev whole : ℕ
  whole = length (body x) + 24

  abbrev numbers : Trailer
  numbers = form_numbers x whole

  form_plain : Plain numbers (bytes x)
  unfolding bytes body
  form_plain =
      let t = trailer24 x whole in
      let rest = each held20 x.held ++ t in
      record {
        of_streams = λ i h. rw (append_assoc (each stream8 x.streams) (each record8 x.records ++ each held20 x.held) t) (streams_plain ((each record8 x.records ++ each held20 x.held) ++ t) x.streams i h);
        of_records = λ i h. rw (past_streams x t) (records_plain rest x.records i h);
        of_places = rw (past_streams x t, drop_each record8 8 record_long x.records rest) (held_plain t x.held);
      }

  shown_back : shown_by numbers (bytes x) ≡ x
  unfolding decode_with numbers_of bytes
  shown_back = ap (λ t. shown_by t (bytes x)) (sym (ap numbers_of (trailer_is x whole) ∙ numbers_back numbers)) ∙ with_trailer x (trailer24 x whole) whole

  sections_pass : sections_fit numbers (bytes x) ≡ true
  sections_pass = form_sections numbers (bytes x) form_plain (rw shown_back w)

  trailer_passes : (n : ℕ) → whole ≤ n → trailer_fits n (trailer_bytes numbers) ≡ true
  unfolding trailer_fits every
  trailer_passes n h =
      let z = trailer_zeros numbers in
      let e : whole ≡ image_length numbers.account.fragments numbers.records numbers.account.held = omega (arith, length_bytes x, length_form x) in
      rw (z.0, z.1, numbers_back numbers, account_fits_law x w, few_held x w, eq-eqb whole (image_length numbers.account.fragments numbers.records numbers.account.held) e, le-leb whole n h)

must_pass : (l : List ℕ) (a : Account) → load l ≡ Some a → Passes l
unfolding image
must_pass l a e =
    let g = (loads_exactly l a).0 e in
    let x = form a in
    let w = form_fits_law g.well_formed in
    let n = whole x w in
    let q : last_of 24 l ≡ trailer_bytes (numbers x w) = rw g.ends (trailer_last g.front x ∙ trailer_is x n) in
    let i : last_of n l ≡ bytes x = rw g.ends (last_of_law g.front (bytes x) n (length_bytes x)) in
    let len : length l ≡ length g.front + length (bytes x) = ap length g.ends ∙ length-append g.front (bytes x) in
    record {
      long = omega (arith, length_bytes x);
      is_signed = rw q (trailer_signed (numbers x w));
      trailer = rw q (trailer_passes x w (length l) (omega (arith, length_bytes x)));
      sections = rw (q, numbers_back (numbers x w), i) (sections_pass x w);
    }

true_or_false : {x : Bool} → x ≡ true → x ≡ false → ⊥
true_or_false p q = let z : ◌≡◌ {A = ℕ} 0 1 = no_way (sym q ∙ p) in omega arith

refused : (l : List ℕ) → (Passes l → ⊥) → None ≡ judged_of l
unfolding judged_of
refused l no-pass = go (load l) refl
  where
    go : (o : Option Account) → load l ≡ o → None ≡ judged_as o
    go None e = refl
    go (Some a) e = absurd (no-pass (must_pass l a e))

-- ---- a law for each answer; the parts are lent from an index to the end

abbrev pub part_from : List ℕ → ℕ → List ℕ
part_from l a = take (length l - a) (drop a l)

pub part_from_law : (l : List ℕ) (a : ℕ) → part_from l a ≡ drop a l
part_from_law l a = take_all (length l - a) (drop a l) (omega (arith, length-drop a l))

-- where a section does not fit, those behind it are not looked at
pub streams_unfit : (b : List ℕ) (t : Trailer) (x : Bool)
    → x ≡ all_below (stream_fits t.account.closed b) t.account.fragments
    → x ≡ false → false ≡ sections_fit t b
unfolding sections_fit every
streams_unfit b t x p e = rw (sym p ∙ e)

pub records_unfit : (b : List ℕ) (t : Trailer) (x y : Bool)
    → x ≡ all_below (stream_fits t.account.closed b) t.account.fragments
    → y ≡ all_below (record_fits t.account.fragments t.account.keys (part_from b (t.account.fragments * 8))) t.records
    → x ≡ true → y ≡ false → false ≡ sections_fit t b
unfolding sections_fit every
records_unfit b t x y p q d e = let r = rw (part_from_law b (t.account.fragments * 8)) at q in rw (sym p ∙ d, sym r ∙ e)

pub sections_law : (b : List ℕ) (t : Trailer) (x y z : Bool)
    → x ≡ all_below (stream_fits t.account.closed b) t.account.fragments
    → y ≡ all_below (record_fits t.account.fragments t.account.keys (part_from b (t.account.fragments * 8))) t.records
    → z ≡ section_fits t.account.keys t.account.closed (parse t.account.fragments 8 counters_of b) t.account.held (part_from b (t.account.fragments * 8 + t.records * 8))
    → x ≡ true → y ≡ true → z ≡ sections_fit t b
unfolding sections_fit every
sections_law b t x y z p q r d e =
    let f = rw (part_from_law b (t.account.fragments * 8)) at q in
    let g = rw (part_from_law b (t.account.fragments * 8 + t.records * 8), ← drop-drop (t.records * 8) (t.account.fragments * 8) b) at r in
    rw (sym p ∙ d, sym f ∙ e, and-true) g

module _ (l : List ℕ) where
  pub too_short : length l < 24 → None ≡ judged_of l
  too_short h = refused l (λ p. omega (arith, p.long))

  last_part_law : (n : ℕ) → part_from l (length l - n) ≡ last_of n l
  unfolding last_of
  last_part_law n = part_from_law l (length l - n)

  -- m are the last bytes
  module _ (m : List ℕ) (e : m ≡ drop (length l - 24) l) where
    last : m ≡ last_of 24 l
    unfolding last_of
    last = e

    pub not_signed : signed m ≡ false → None ≡ judged_of l
    not_signed w = refused l (λ p. true_or_false p.is_signed (rw last at w))

    pub trailer_unfit : trailer_fits (length l) m ≡ false → None ≡ judged_of l
    trailer_unfit w = refused l (λ p. true_or_false p.trailer (rw last at w))

    module _ (fits : trailer_fits (length l) m ≡ true) (t : Trailer) (is : t ≡ numbers_of m) where
      are : t ≡ last_numbers l
      are = is ∙ ap numbers_of last

      pub within_data : t.length ≤ length l
      unfolding trailer_fits
      within_data = rw is (leb-true (numbers_of m).length (length l) (nth _ fits 5))

      pub limits : (length (part_from l (length l - t.length)) ≡ image_length t.account.fragments t.records t.account.held) × (t.account.held ≤ 256)
      unfolding trailer_fits
      limits =
          let h = within_data in
          let v = numbers_of m in
          let q : t.length ≡ image_length t.account.fragments t.records t.account.held = rw is (eqb-true v.length (image_length v.account.fragments v.records v.account.held) (nth _ fits 4)) in
          (rw (part_from_law l (length l - t.length), length-drop (length l - t.length) l) (omega arith), rw is (leb-true v.account.held 256 (nth _ fits 3)))

      pub all_judged : Bytes l → 24 ≤ length l → signed m ≡ true → (x : Bool) → x ≡ sections_fit t (part_from l (length l - t.length)) → then_some x t ≡ judged_of l
      all_judged b h s false v = refused l (λ p. true_or_false p.sections (rw (last_part_law t.length, are) at (sym v)))
      all_judged b h s true v =
          rw are (passed l b (record { long = h; is_signed = rw last at s; trailer = rw last at fits; sections = rw (last_part_law t.length, are) at (sym v) }))

-- ---- what accepted data are

pub accepted_passes : (l : List ℕ) (t : Trailer) → judged_of l ≡ Some t → Passes l
unfolding judged_of
accepted_passes l t e = go (load l) refl e
  where
    go : (o : Option Account) → load l ≡ o → judged_as o ≡ Some t → Passes l
    go None q e = no_way cc
    go (Some a) q e = must_pass l a q

pub accepted_numbers : (l : List ℕ) (t : Trailer) → Bytes l → judged_of l ≡ Some t → t ≡ last_numbers l
accepted_numbers l t b e = let p = passed l b (accepted_passes l t e) in cc
