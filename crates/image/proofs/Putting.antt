-- Records put into a lot, the last one of a list first, and sections overwritten one after the other. Assumes nothing.
use Prim.Native.Nat.{ℕ, zero, suc, ◌+◌, ◌*◌, ◌-◌, ◌<◌, ◌≤◌, ◌^◌}
use mathlib.Core.Path.{◌≡◌, refl, sym, ap, ◌∙◌}
use mathlib.Core.Bool.{◌&&◌, and-false}
use mathlib.Core.List.{List, [], ◌∷◌}
use native.Mathlib.Omega.{arith}
use native.Mathlib.Decide.{ℕ_discrete}
use lib.Dec.{eqb}
use lib.ListN.{length, get_or, take, drop}
use lib.Seq.{drop-drop}
use borrow.Author.Tests.{eq-eqb, ne_eqb}
use Rattle.wire.specs.Numbers.{number16, number32}
use Rattle.std.specs.Prelude.{if◌then◌else◌}
use Rattle.model.specs.Account.{Record, present}
use Rattle.model.specs.Image.{Present}
use Rattle.model.specs.Decoding.{present_of, parse, find}
use Rattle.lot.specs.Layout.{SIZE, streams_of, places_of, records_of}
use Rattle.lot.specs.View.{record_at}
use Rattle.lot.specs.Writing.{with_record}
use Rattle.lot.proofs.Lengths.{length_records}
use Rattle.lot.proofs.Records.{length_record, put_own, put_other}
use Rattle.writes.specs.Sections.{WithRecords, overwritten}
use Rattle.writes.specs.Fresh.{Zeros}
use Rattle.writes.proofs.Fresh.{no_record}
use Rattle.trailer.specs.declared.Trailer.{Trailer}
use Rattle.judging.specs.Judging.{present_at}
use Rattle.judging.proofs.Parts.{Bytes, bytes_drop}
use Rattle.judging.proofs.Records.{fragment_at_law, key_at, value_at}
use Rattle.image.specs.Loading.{SmallRecord, SmallRecords, with_present, with_all, HeldLoaded, ImageLoaded}

-- ---- one record more

pub record_put : (l m s : List ℕ) (j k v : ℕ) → k ≡ number16 s (j * 8 + 2) → v ≡ number32 s (j * 8 + 4) → WithRecords l m (with_record (records_of l) (get_or s (j * 8) 0) k v) → WithRecords l m (with_present (records_of l) (present_at s j))
record_put l m s j k v ek ev w = rw (fragment_at_law s j, key_at s j, value_at s j, ← ek, ← ev) w

pub none_put : (l s : List ℕ) (n : ℕ) → WithRecords l l (with_all (records_of l) (parse (n - n) 8 present_of (drop (n * 8) s)))
unfolding parse with_all
none_put l s n = let z : n - n ≡ 0 = omega arith in rw z (record { head = refl; streams = refl; places = refl; records = refl })

pub next_put : (l l' m s : List ℕ) (n j : ℕ) → 0 < j → j ≤ n → WithRecords l l' (with_all (records_of l) (parse (n - j) 8 present_of (drop (j * 8) s))) → WithRecords l' m (with_present (records_of l') (present_at s (j - 1)))
    → WithRecords l m (with_all (records_of l) (parse (n - (j - 1)) 8 present_of (drop ((j - 1) * 8) s)))
unfolding parse with_all
next_put l l' m s n j pos low v w =
    let i = j - 1 in
    let z : n - i ≡ suc (n - j) = omega arith in
    let y : i * 8 + 8 ≡ j * 8 = omega arith in
    let q : with_all (records_of l) (parse (n - i) 8 present_of (drop (i * 8) s)) ≡ with_present (records_of l') (present_at s i) = rw (z, drop-drop 8 (i * 8) s, y) (ap (λ r. with_present r (present_at s i)) (sym v.records)) in
    rw q (record { head = w.head ∙ v.head; streams = w.streams ∙ v.streams; places = w.places ∙ v.places; records = w.records })

pub all_put : (l m s : List ℕ) (n j : ℕ) → j ≡ 0 → WithRecords l m (with_all (records_of l) (parse (n - j) 8 present_of (drop (j * 8) s))) → WithRecords l m (with_all (records_of l) (parse n 8 present_of s))
all_put l m s n j e w = let z : n - 0 ≡ n = omega arith in let y : drop (0 * 8) s ≡ s = refl in rw (e, z) at w

-- ---- what is found among them

small_value : (l : List ℕ) (i : ℕ) → Bytes l → number32 l i < 2 ^ 32
unfolding number32
small_value l i b = omega (arith, b i, b (i + 1), b (i + 2), b (i + 3))

module _ (r : List ℕ) (z : Zeros r) (sized : length r ≡ 5120) where
  length_all : (ps : List Present) → length (with_all r ps) ≡ 5120
  unfolding with_all
  length_all [] = sized
  length_all (p ∷ ps) = length_record (with_all r ps) p.fragment p.key p.value ∙ length_all ps

  put_first : (x : List ℕ) (p : Present) (i k : ℕ) (y : Record) → length x ≡ 5120 → SmallRecord p → p.value < 2 ^ 32 → k < 128 → record_at x i k ≡ y → record_at (with_present x p) i k ≡ (if eqb p.fragment i && eqb p.key k then present p.value else y)
  put_first x p i k y len s v hk e = go (ℕ_discrete p.fragment i) (ℕ_discrete p.key k)
    where
      go : Dec (p.fragment ≡ i) → Dec (p.key ≡ k) → record_at (with_present x p) i k ≡ (if eqb p.fragment i && eqb p.key k then present p.value else y)
      go (yes f) (yes g) = rw (eq-eqb p.fragment i f, eq-eqb p.key k g, ← f, ← g) (put_own x p.fragment p.key (omega (arith, s.fragment, s.key)) p.value v)
      go (yes f) (no g) = rw (ne_eqb p.key k g, and-false (eqb p.fragment i)) (put_other x p.fragment p.key s.key i k hk (λ _ q. g q) p.value ∙ e)
      go (no f) d = rw (ne_eqb p.fragment i f) (put_other x p.fragment p.key s.key i k hk (λ q _. f q) p.value ∙ e)

  pub found_as_put : (n : ℕ) (l : List ℕ) → Bytes l → SmallRecords l n → (i k : ℕ) → k < 128 → record_at (with_all r (parse n 8 present_of l)) i k ≡ find i k (parse n 8 present_of l)
  unfolding with_all parse find
  found_as_put zero l b s i k hk = no_record r z i k
  found_as_put (suc n) l b s i k hk =
      let ps = parse n 8 present_of (drop 8 l) in
      let y : 0 * 8 ≡ 0 = omega arith in
      put_first (with_all r ps) (present_of l) i k (find i k ps) (length_all ps) (s 0 (omega arith)) (rw (value_at l 0) (small_value l (0 * 8 + 4) b)) hk
      (found_as_put n (drop 8 l) (bytes_drop 8 l b) (λ j h. let q : 8 + j * 8 ≡ suc j * 8 = omega arith in rw (drop-drop (j * 8) 8 l, q) (s (suc j) (omega arith))) i k hk)

-- ---- a whole image

pub image_loaded : (l l₁ l₂ m : List ℕ) (t : Trailer) (b s p x : List ℕ) → length l ≡ SIZE → length l₂ ≡ SIZE → s ≡ take (t.account.fragments * 8) b → p ≡ take (t.account.held * 20) (drop (t.account.fragments * 8 + t.records * 8) b) → x ≡ drop (t.account.fragments * 8) b
    → HeldLoaded l l₁ t.account s p → WithRecords l₁ l₂ (records_of l₂) → Zeros (records_of l₂) → WithRecords l₂ m (with_all (records_of l₂) (parse t.records 8 present_of x)) → ImageLoaded l m t b
image_loaded l l₁ l₂ m t b s p x size size₂ es ep ex h u z w = record {
  cleared = records_of l₂;
  zeros = z;
  sized = length_records l₂ size₂;
  sections = record {
    head = w.head ∙ u.head ∙ h.head;
    streams = w.streams ∙ u.streams ∙ h.streams ∙ ap (λ y. overwritten y (streams_of l)) es;
    places = w.places ∙ u.places ∙ h.places ∙ ap (λ y. overwritten y (places_of l)) ep;
    records = w.records ∙ ap (λ y. with_all (records_of l₂) (parse t.records 8 present_of y)) ex;
  };
}
