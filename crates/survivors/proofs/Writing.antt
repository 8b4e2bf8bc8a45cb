-- A place written after others, and what it leaves of the items there. Assumes nothing.
use Prim.Native.Nat.{ℕ, ◌+◌, ◌*◌, ◌-◌, ◌<◌, ◌≤◌}
use mathlib.Core.Path.{◌≡◌, refl, sym, ◌∙◌}
use mathlib.Core.Bool.{Bool, true, false, ◌&&◌}
use mathlib.Core.List.{List, [], ◌∷◌, ◌++◌, append-nil}
use native.Mathlib.Omega.{arith}
use native.Mathlib.Numerals.{add-one}
use lib.Dec.{eqb}
use lib.ListN.{length, get_or, set, take, drop, length-set}
use borrow.Rule.Slice.PartMut.{put_mid}
use Rattle.std.proofs.lemmas.List.{set-append_left, set-append_right}
use lib.Seq.{slice_empty, length-take-le, drop-drop, get_or-set_same, get_or-set_other, get_or-take, set-get_or}
use Rattle.wire.specs.Numbers.{number16, number32}
use Rattle.wire.specs.Laws.{Same}
use Rattle.std.specs.Prelude.{Option, Some, None, if◌then◌else◌}
use Rattle.model.specs.Lists.{every}
use Rattle.model.specs.Decoding.{item_of, parse}
use Rattle.model.proofs.Tests.{and_l, and_r, nth, every_append}
use Rattle.model.specs.Section.{plain_place, plain, items}
use Rattle.lookback.proofs.Places.{parse_more}
use Rattle.places.specs.Moves.{inserted}
use Rattle.places.proofs.Sections.{insert_parts}
use Rattle.places.proofs.Placed.{item_reads}
use Rattle.model.specs.Entry.{P}
use Rattle.model.specs.Image.{Item}
use Rattle.verdicts.specs.declared.Verdict.{Verdict}
use Rattle.verdicts.specs.declared.Verdict.TheVariants.{Free, Install, Flag, Stay}
use Rattle.survivors.specs.Left.{flagged_item, left_of, flag_left, left_upto, Kept, Left}

-- what `put_place` leaves: the place r copied in, and then its flag byte
pub put_is : (l r : List ℕ) (a flag : ℕ) → a + 20 ≤ length l → length r ≡ 20 → set (put_mid a (a + 20 - a) l r) (a + 11) flag ≡ inserted l a a (set r 11 flag)
unfolding inserted
put_is l r a flag h len =
    let k : a + 20 - a ≡ 20 = omega arith in
    let i : a + 11 - a ≡ 11 = omega arith in
    let in_place : 11 < length r = omega arith in
    let rest = drop 20 (drop a l) in
    rw (k, set-append_right (take a l) (r ++ rest) a (a + 11) flag (length-take-le a l (omega arith)) (omega arith), i, set-append_left r rest 11 flag in_place, slice_empty a l, drop-drop 20 a l)

-- ---- the flag byte of a place

module _ (r : List ℕ) (len : length r ≡ 20) where
  other : (i v : ℕ) → (i ≡ 11 → ⊥) → get_or (set r 11 v) i 0 ≡ get_or r i 0
  other i v n = get_or-set_other r 11 i v 0 n

  flagged_item_law : item_of (set r 11 1) ≡ flagged_item (item_of r)
  unfolding item_of number16 number32
  flagged_item_law =
      rw (
        other 0 1 (λ e. omega arith),
        other 1 1 (λ e. omega arith),
        other 4 1 (λ e. omega arith),
        other 5 1 (λ e. omega arith),
        other 6 1 (λ e. omega arith),
        other 7 1 (λ e. omega arith),
        other 8 1 (λ e. omega arith),
        other 9 1 (λ e. omega arith),
        other 12 1 (λ e. omega arith),
        other 13 1 (λ e. omega arith),
        other 14 1 (λ e. omega arith),
        other 15 1 (λ e. omega arith),
        other 16 1 (λ e. omega arith),
        other 17 1 (λ e. omega arith),
        other 18 1 (λ e. omega arith),
        other 19 1 (λ e. omega arith),
        get_or-set_same r 11 1 0 (omega arith),
      )

  zeros : plain_place r ≡ true → (eqb (get_or r 2 0) 0 ≡ true) × (eqb (get_or r 3 0) 0 ≡ true) × (eqb (get_or r 10 0) 0 ≡ true)
  unfolding plain_place
  zeros w = (nth _ w 0, nth _ w 1, nth _ w 2)

  flagged_plain : plain_place r ≡ true → plain_place (set r 11 1) ≡ true
  unfolding plain_place every
  flagged_plain w =
      let z = zeros w in
      rw (other 2 1 (λ e. omega arith), other 3 1 (λ e. omega arith), other 10 1 (λ e. omega arith), get_or-set_same r 11 1 0 (omega arith), z.0, z.1, z.2)

  same_flag : (flag : ℕ) → Some (get_or r 11 0) ≡ Some flag → set r 11 flag ≡ r
  same_flag flag e = let z : get_or r 11 0 ≡ flag = cc in rw (← z) (set-get_or r 11 0)

  as_it_is : (flag : ℕ) → Some (get_or r 11 0) ≡ Some flag → item_of r ∷ [] ≡ item_of (set r 11 flag) ∷ []
  as_it_is flag e = rw (same_flag flag e)

  -- the place with the flag byte that is left
  left_item : (v : Option Verdict) (flag : ℕ) → flag_left v (item_of r).entry.kind (get_or r 11 0) ≡ Some flag → left_of v (item_of r) ≡ item_of (set r 11 flag) ∷ []
  unfolding left_of
  left_item (Some Free) flag e = absurd (cc)
  left_item (Some Install) flag e = absurd (cc)
  left_item (Some Flag) flag e = go (eqb (item_of r).entry.kind P) e
    where
      go : (b : Bool) → (if b then Some 1 else None) ≡ Some flag → (if b then flagged_item (item_of r) ∷ [] else []) ≡ item_of (set r 11 flag) ∷ []
      go true e = let z : 1 ≡ flag = cc in rw (← z, flagged_item_law)
      go false e = absurd (cc)
  left_item (Some Stay) flag e = as_it_is flag e
  left_item None flag e = as_it_is flag e

  left_plain : (v : Option Verdict) (kind flag : ℕ) → flag_left v kind (get_or r 11 0) ≡ Some flag → plain_place r ≡ true → plain_place (set r 11 flag) ≡ true
  left_plain (Some Free) kind flag e w = absurd (cc)
  left_plain (Some Install) kind flag e w = absurd (cc)
  left_plain (Some Flag) kind flag e w = go (eqb kind P) e
    where
      go : (b : Bool) → (if b then Some 1 else None) ≡ Some flag → plain_place (set r 11 flag) ≡ true
      go true e = let z : 1 ≡ flag = cc in rw (← z) (flagged_plain w)
      go false e = absurd (cc)
  left_plain (Some Stay) kind flag e w = rw (same_flag flag e) w
  left_plain None kind flag e w = rw (same_flag flag e) w

plain_reads : (l m : List ℕ) → Same l m 0 20 → plain_place l ≡ plain_place m
unfolding plain_place Same
plain_reads l m s = rw (s 2 (omega arith) (omega arith), s 3 (omega arith) (omega arith), s 10 (omega arith) (omega arith), s 11 (omega arith) (omega arith))

none_left : (v : Option Verdict) (x : Item) (flag : ℕ) → flag_left v x.entry.kind flag ≡ None → left_of v x ≡ []
unfolding left_of
none_left (Some Free) x flag e = refl
none_left (Some Install) x flag e = refl
none_left (Some Flag) x flag e = go (eqb x.entry.kind P) e
  where
    go : (b : Bool) → ◌≡◌ {A = Option ℕ} (if b then Some 1 else None) None → (if b then flagged_item x ∷ [] else []) ≡ []
    go true e = absurd (cc)
    go false e = refl
none_left (Some Stay) x flag e = absurd (cc)
none_left None x flag e = absurd (cc)

-- ---- the returns of `keep_place`

module _ (h r : List ℕ) (m : ℕ) (v : Option Verdict) where
  pub kept_none : flag_left v (item_of r).entry.kind (get_or r 11 0) ≡ None → Kept h h m m v r
  kept_none g = record { items_are = rw (none_left v (item_of r) (get_or r 11 0) g, append-nil (items m h)); stays_plain = λ w u. w }

  pub kept_one : (h' : List ℕ) (flag : ℕ) → length h ≡ 5120 → m < 256 → length r ≡ 20 → flag_left v (item_of r).entry.kind (get_or r 11 0) ≡ Some flag
      → h' ≡ inserted h (m * 20) (m * 20) (set r 11 flag) → Kept h h' m (m + 1) v r
  unfolding parse every
  kept_one h' flag lh lm len g e =
      let q = set r 11 flag in
      let z : m - m ≡ 0 = omega arith in
      let lq : length q ≡ 20 = length-set r 11 flag ∙ len in
      record {
        items_are = rw (e, insert_parts item_of item_reads h q m m (omega arith) (omega arith) lq, z, left_item r len v flag g);
        stays_plain = λ w u. rw (e, insert_parts plain_place plain_reads h q m m (omega arith) (omega arith) lq, z, every_append (parse m 20 plain_place h) (plain_place q ∷ []), w, left_plain r len v (item_of r).entry.kind flag g u);
      }

-- ---- a turn of `keep_survivors`

pub left_none : (h : List ℕ) (verdicts : List (Option Verdict)) (old : List ℕ) → Left h 0 verdicts old 0
unfolding left_upto parse
left_none h verdicts old = record { items_are = refl; stays_plain = λ w. w }

cut : (l : List ℕ) (a : ℕ) → Same (take (a + 20 - a) (drop a l)) (drop a l) 0 20
unfolding Same
cut l a k lo hi = let z : a + 20 - a ≡ 20 = omega arith in rw z (get_or-take 20 (drop a l) k 0 hi)

pub left_more : (h h' : List ℕ) (verdicts : List (Option Verdict)) (old : List ℕ) (m m' i : ℕ) → Left h m verdicts old i → Kept h h' m m' (get_or verdicts i None) (take (i * 20 + 20 - i * 20) (drop (i * 20) old)) → Left h' m' verdicts old (i + 1)
unfolding left_upto every
left_more h h' verdicts old m m' i w k = record {
  items_are = k.items_are ∙ rw (add-one i, w.items_are, item_reads _ _ (cut old (i * 20)));
  stays_plain = λ p.
      let more : plain (i + 1) old ≡ (plain i old && (plain_place (drop (i * 20) old) && true)) = rw (add-one i, parse_more 20 plain_place i old) (every_append (parse i 20 plain_place old) (plain_place (drop (i * 20) old) ∷ [])) in
      let both = sym more ∙ p in
      k.stays_plain (w.stays_plain (and_l _ _ both)) (plain_reads _ _ (cut old (i * 20)) ∙ and_l _ _ (and_r (plain i old) _ both));
}
