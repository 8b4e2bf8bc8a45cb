-- What holding an entry does to the items of a section, stream by stream: it comes last in its own, the others stay, and the section still passes the test. Assumes nothing.
use Prim.Native.Nat.{ℕ, ◌+◌, ◌*◌, ◌-◌, ◌≤◌, ◌<◌}
use mathlib.Core.Path.{◌≡◌, refl, ap, ◌∙◌}
use mathlib.Core.Bool.{true}
use mathlib.Core.List.{List, [], ◌∷◌, ◌++◌, append-nil}
use native.Mathlib.Omega.{arith}
use lib.Dec.{ltb}
use lib.ListN.{length, drop}
use borrow.Author.Tests.{eq-eqb, ne_eqb, ltb-true}
use Rattle.model.specs.Lists.{all}
use Rattle.model.specs.Entry.{entry_of, fits}
use Rattle.model.specs.Taking.{hold}
use Rattle.model.specs.Image.{Item}
use Rattle.model.specs.Decoding.{item_of, mine, held_fits}
use Rattle.model.specs.declared.Counters.{Counters}
use Rattle.model.proofs.Tests.{and_l, and_r}
use Rattle.model.proofs.Buckets.{Rising}
use Rattle.model.proofs.Forms.{mine_append}
use Rattle.model.proofs.ByStream.{Sorted, StreamsFit, held_fits_law, held_sorted}
use Rattle.model.specs.Section.{items}
use Rattle.places.specs.Places.{end_of, held_item, EntryHeld}
use Rattle.places.proofs.Sections.{parse_split}
use Rattle.places.proofs.Ends.{end_within, last_stream, before_end, from_end}

-- ---- an item x put in between xs and ys, where ys are of later streams

module _ (x : Item) where
  abbrev Later : List Item → Type 0
  Later ys = all (λ g. ltb x.stream g.stream) ys ≡ true

  none_later : (ys : List Item) → Later ys → mine x.stream ys ≡ []
  unfolding all mine
  none_later [] a = refl
  none_later (y ∷ ys) a =
      let l = ltb-true x.stream y.stream (and_l _ _ a) in
      rw (ne_eqb y.stream x.stream (λ e. omega arith)) (none_later ys (and_r (ltb x.stream y.stream) _ a))

  own : (xs ys : List Item) → Later ys → mine x.stream (xs ++ (x ∷ ys)) ≡ mine x.stream (xs ++ ys) ++ (x.entry ∷ [])
  unfolding mine
  own xs ys a =
      let i = x.stream in
      rw (mine_append i xs (x ∷ ys), mine_append i xs ys, eq-eqb i i refl, none_later ys a, append-nil (mine i xs))

  other : (xs ys : List Item) (j : ℕ) → (x.stream ≡ j → ⊥) → mine j (xs ++ (x ∷ ys)) ≡ mine j (xs ++ ys)
  unfolding mine
  other xs ys j n = rw (mine_append j xs (x ∷ ys), mine_append j xs ys, ne_eqb x.stream j n)

  module _ (f : ℕ) where
    abbrev RisingFrom : ℕ → List Item → Type 0
    RisingFrom m ys = Rising (λ e. e.stream) m f ys

    rising_later : (m : ℕ) (ys : List Item) → Later ys → RisingFrom m ys → RisingFrom x.stream ys
    unfolding Rising all
    rising_later m [] a r = r
    rising_later m (y ∷ ys) a r = (omega (arith, ltb-true x.stream y.stream (and_l _ _ a)), r.1, r.2)

    rising_with : (m : ℕ) (xs ys : List Item) → x.stream < f → last_stream m xs ≤ x.stream → Later ys → RisingFrom m (xs ++ ys) → RisingFrom m (xs ++ (x ∷ ys))
    unfolding Rising last_stream
    rising_with m [] ys h l a r = (l, h, rising_later m ys a r)
    rising_with m (z ∷ xs) ys h l a r = (r.0, r.1, rising_with z.stream xs ys h l a r.2)

-- ---- an entry held

module _ {h h' bytes : List ℕ} {n epoch : ℕ} (e : EntryHeld h h' n bytes epoch) (fit : fits (entry_of bytes) ≡ true) where
  abbrev i : ℕ
  i = (entry_of bytes).fragment

  abbrev before : List Item
  before = items (end_of h n i) h

  abbrev rest : List Item
  rest = items (n - end_of h n i) (drop (end_of h n i * 20) h)

  split : items n h ≡ before ++ rest
  split = let z : n ≡ end_of h n i + (n - end_of h n i) = omega (arith, end_within h i n) in ap (λ m. items m h) z ∙ parse_split item_of (end_of h n i) (n - end_of h n i) h

  pub held_own : mine (entry_of bytes).fragment (items (n + 1) h') ≡ mine (entry_of bytes).fragment (items n h) ++ (hold (entry_of bytes) epoch ∷ [])
  held_own = rw (e.are fit, split) (own (held_item bytes epoch) before rest (from_end h n i))

  pub held_other : (j : ℕ) → ((entry_of bytes).fragment ≡ j → ⊥) → mine j (items (n + 1) h') ≡ mine j (items n h)
  held_other j ne = rw (e.are fit, split) (other (held_item bytes epoch) before rest j ne)

  pub stays_sorted : (f : ℕ) → (entry_of bytes).fragment < f → Sorted f (items n h) → Sorted f (items (n + 1) h')
  stays_sorted f l s = rw (e.are fit) (rising_with (held_item bytes epoch) f 0 before rest l (before_end h n i) (from_end h n i) (rw split at s))

  -- ss and ss' are the streams before and afterwards
  pub stays_fit : (k c : ℕ) (ss ss' : List Counters) → length ss' ≡ length ss → (entry_of bytes).fragment < length ss
      → held_fits k c ss [] (items n h) ≡ true → StreamsFit k c ss' (items (n + 1) h') → held_fits k c ss' [] (items (n + 1) h') ≡ true
  stays_fit k c ss ss' same l w f = held_fits_law k c ss' (items (n + 1) h') (rw same (stays_sorted (length ss) l (held_sorted k c ss (items n h) w))) f
