-- One piece installed, and one list of pieces after another. Assumes nothing.
use Prim.Native.Nat.{ℕ, zero, suc, ◌+◌, ◌*◌, ◌≤◌, ◌<◌}
use mathlib.Core.Path.{◌≡◌, refl, sym, ap, subst, ◌∙◌}
use mathlib.Core.Bool.{true, false}
use mathlib.Core.List.{List, [], ◌∷◌, ◌++◌}
use native.Mathlib.Omega.{arith}
use native.Mathlib.Numerals.{add-one}
use native.Mathlib.Decide.{ℕ_discrete, dec_lt}
use borrow.Author.Tests.{eq-eqb, ne_eqb, eqb-true, lt-ltb, le-ltb}
use lib.Dec.{ltb, eqb}
use lib.ListN.{length, set, length-append, length-set}
use Rattle.std.specs.Prelude.{Option, if◌then◌else◌}
use Rattle.model.specs.Lists.{sum_below}
use Rattle.model.specs.Account.{Record}
use Rattle.model.proofs.Tests.{and_l}
use Rattle.model.specs.Section.{item_at}
use Rattle.lot.specs.View.{record_at}
use Rattle.install.specs.Writes.{Changed, writes_before}
use Rattle.verdicts.specs.declared.Verdict.{Verdict}
use Rattle.install.specs.declared.Sort.{Sort}
use Rattle.install.specs.declared.Stream.{Stream}
use Rattle.install.specs.declared.Output.{Output}
use Rattle.install.specs.Stream.{Room, Installs}
use Rattle.install.specs.Pieces.{is_piece, piece_at, pieces_till, pieces_of, with_pieces, after_pieces, Installed, count_of, with_streams, InstalledAll}
use Rattle.install.proofs.Written.{change_same, change_none, change_more}

module _ (h : List ℕ) (s : ℕ) where
  with_append : (l : List ℕ) (p : ℕ) (is js : List ℕ) → with_pieces h l p s (is ++ js) ≡ with_pieces h (with_pieces h l p s is) (p + length is) s js
  unfolding with_pieces
  with_append l p [] js = let z : p + 0 ≡ p = omega arith in rw z
  with_append l p (i ∷ is) js =
      let z : p + suc (length is) ≡ suc p + length is = omega arith in
      with_append (set (set l (p * 2) s) (p * 2 + 1) (item_at h i).entry.transaction) (suc p) is js ∙ rw z

  pub length_with : (l : List ℕ) (p : ℕ) (is : List ℕ) → length (with_pieces h l p s is) ≡ length l
  unfolding with_pieces
  length_with l p [] = refl
  length_with l p (i ∷ is) = length_with (set (set l (p * 2) s) (p * 2 + 1) (item_at h i).entry.transaction) (suc p) is ∙ simp length-set

  pub after_append : (is js : List ℕ) (k : ℕ) (y : Record) → after_pieces h (is ++ js) k y ≡ after_pieces h js k (after_pieces h is k y)
  unfolding after_pieces
  after_append [] js k y = refl
  after_append (i ∷ is) js k y = after_append is js k _

  pub installed_none : (l r : List ℕ) (p : ℕ) → Installed h [] s l l r r p p
  unfolding with_pieces after_pieces
  installed_none l r p = record { counted = omega arith; listed = refl; records = change_none r s }

  pub installed_one : (l l' r r' : List ℕ) (p i : ℕ) → l' ≡ set (set l (p * 2) s) (p * 2 + 1) (item_at h i).entry.transaction → Changed r r' s (writes_before h i) → Installed h (i ∷ []) s l l' r r' p (p + 1)
  unfolding with_pieces after_pieces
  installed_one l l' r r' p i e c = record { counted = refl; listed = e; records = c }

  pub installed_more : {is js l l' l'' r r' r'' : List ℕ} {p p' p'' : ℕ} → Installed h is s l l' r r' p p' → Installed h js s l' l'' r' r'' p' p'' → Installed h (is ++ js) s l l'' r r'' p p''
  installed_more {is} {js} {l = l} {p = p} a b = record {
    counted = omega (arith, a.counted, b.counted, length-append is js);
    listed = b.listed ∙ rw (a.listed, a.counted) (sym (with_append l p is js));
    records = change_same (λ k y u. sym (after_append is js k y)) (change_more a.records b.records);
  }

pub installed_length : {h is l l' r r' : List ℕ} {s p p' : ℕ} → Installed h is s l l' r r' p p' → length l' ≡ length l
installed_length {h} {is} {l = l} {s = s} {p = p} a = ap length a.listed ∙ length_with h s l p is

-- after some pieces there is room for the others
pub room_left : (s : Stream) {is js ks : List ℕ} {o o' : Output} → Room ks o → Installs s is o o' → length is + length js ≤ length ks → Room js o'
room_left s w a l = record { size = a.records.size ∙ w.size; long = omega (arith, w.long, installed_length a); few = omega (arith, w.few, a.counted) }

-- ---- what is a piece

module _ (verdicts : List (Option Verdict)) (h : List ℕ) (s : ℕ) (i : ℕ) where
  pub piece_elsewhere : (sort : Sort) → ((item_at h i).stream ≡ s → ⊥) → false ≡ is_piece verdicts h s sort i
  unfolding is_piece
  piece_elsewhere sort n = rw (ne_eqb (item_at h i).stream s n)

  pub piece_stream : (sort : Sort) → is_piece verdicts h s sort i ≡ true → (item_at h i).stream ≡ s
  unfolding is_piece
  piece_stream sort w = eqb-true _ _ (and_l _ _ w)

-- ---- the returns of `install_at`

module _ (verdicts : List (Option Verdict)) (h : List ℕ) (s : ℕ) (sort : Sort) (i : ℕ) where
  pub at_none : (l r : List ℕ) (p : ℕ) → is_piece verdicts h s sort i ≡ false → Installed h (piece_at verdicts h s sort i) s l l r r p p
  at_none l r p w = rw w (installed_none h s l r p)

  pub at_one : (l l' r r' : List ℕ) (p : ℕ) → is_piece verdicts h s sort i ≡ true → l' ≡ set (set l (p * 2) (item_at h i).stream) (p * 2 + 1) (item_at h i).entry.transaction
      → Changed r r' (item_at h i).stream (writes_before h i) → Installed h (piece_at verdicts h s sort i) s l l' r r' p (p + 1)
  at_one l l' r r' p w e c =
      let z = piece_stream verdicts h s i sort w in
      rw w (installed_one h s l l' r r' p i (rw z at e) (subst (λ u. Changed r r' u (writes_before h i)) z c))

  -- ---- a turn of `install_sort`

  pub sort_more : {l l' l'' r r' r'' : List ℕ} {p p' p'' : ℕ} → Installed h (pieces_till verdicts h s sort i) s l l' r r' p p' → Installed h (piece_at verdicts h s sort i) s l' l'' r' r'' p' p''
      → Installed h (pieces_till verdicts h s sort (i + 1)) s l l'' r r'' p p''
  unfolding pieces_till
  sort_more a b = rw (add-one i) (installed_more h s a b)

  -- places below i hold no more pieces than those below n
  pub till_most : (n : ℕ) → i < n → length (pieces_till verdicts h s sort i) + length (piece_at verdicts h s sort i) ≤ length (pieces_till verdicts h s sort n)
  unfolding pieces_till
  till_most zero l = absurd (omega arith)
  till_most (suc n) l = go (ℕ_discrete i n) (till_most n)
    where
      go : Dec (i ≡ n) → (i < n → length (pieces_till verdicts h s sort i) + length (piece_at verdicts h s sort i) ≤ length (pieces_till verdicts h s sort n))
          → length (pieces_till verdicts h s sort i) + length (piece_at verdicts h s sort i) ≤ length (pieces_till verdicts h s sort n ++ piece_at verdicts h s sort n)
      go (yes z) ih = rw z (omega (arith, length-append (pieces_till verdicts h s sort n) (piece_at verdicts h s sort n)))
      go (no z) ih = omega (arith, ih (omega arith), length-append (pieces_till verdicts h s sort n) (piece_at verdicts h s sort n))

-- ---- all streams

pub all_none : (verdicts : List (Option Verdict)) (h l r : List ℕ) (n : ℕ) → InstalledAll verdicts h n 0 l l r r 0
unfolding sum_below with_streams
all_none verdicts h l r n = record { counted = refl; listed = refl; size = refl; records = λ j k u. rw (le-ltb j 0 (omega arith)) }

pub all_more : {verdicts : List (Option Verdict)} {h l l' l'' r r' r'' : List ℕ} {n f p p' : ℕ} → InstalledAll verdicts h n f l l' r r' p → Installed h (pieces_of verdicts h n f) f l' l'' r' r'' p p' → InstalledAll verdicts h n (f + 1) l l'' r r'' p'
unfolding sum_below with_streams
all_more {verdicts} {h} {r = r} {n = n} {f = f} a b = record {
  counted = b.counted ∙ rw (add-one f, a.counted);
  listed = b.listed ∙ rw (add-one f, a.listed, a.counted);
  size = b.records.size ∙ a.size;
  records = λ j k u. b.records.are j k u ∙ rw (a.records j k u) (go j k (ℕ_discrete f j) (dec_lt j f));
}
  where
    go : (j k : ℕ) → Dec (f ≡ j) → Dec (j < f)
        → (if eqb f j then after_pieces h (pieces_of verdicts h n f) k (if ltb j f then after_pieces h (pieces_of verdicts h n j) k (record_at r j k) else record_at r j k) else (if ltb j f then after_pieces h (pieces_of verdicts h n j) k (record_at r j k) else record_at r j k))
        ≡ (if ltb j (f + 1) then after_pieces h (pieces_of verdicts h n j) k (record_at r j k) else record_at r j k)
    go j k (yes z) d = rw (← z, eq-eqb f f refl, le-ltb f f (omega arith), lt-ltb f (f + 1) (omega arith))
    go j k (no z) (yes l) = rw (ne_eqb f j z, lt-ltb j f l, lt-ltb j (f + 1) (omega arith))
    go j k (no z) (no l) = rw (ne_eqb f j z, le-ltb j f (omega arith), le-ltb j (f + 1) (omega arith))

pub count_most : (verdicts : List (Option Verdict)) (h : List ℕ) (n f g : ℕ) → f < g → count_of verdicts h n f + length (pieces_of verdicts h n f) ≤ count_of verdicts h n g
unfolding sum_below
count_most verdicts h n f zero l = absurd (omega arith)
count_most verdicts h n f (suc g) l = go (ℕ_discrete f g) (count_most verdicts h n f g)
  where
    go : Dec (f ≡ g) → (f < g → count_of verdicts h n f + length (pieces_of verdicts h n f) ≤ count_of verdicts h n g) → count_of verdicts h n f + length (pieces_of verdicts h n f) ≤ count_of verdicts h n g + length (pieces_of verdicts h n g)
    go (yes z) ih = rw z (omega arith)
    go (no z) ih = omega (arith, ih (omega arith))
