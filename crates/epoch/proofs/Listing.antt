-- The list that installing leaves is the model's list, and then the rest as it was. Assumes nothing.
use Prim.Native.Nat.{ℕ, zero, suc, ◌+◌, ◌*◌, ◌≤◌, ◌<◌}
use mathlib.Core.Path.{◌≡◌, refl, sym, ap, ◌∙◌}
use Rattle.std.specs.Prelude.{Option}
use mathlib.Core.List.{List, [], ◌∷◌, ◌++◌, map, append-nil, append_assoc}
use native.Mathlib.Omega.{arith}
use lib.ListN.{length, get_or, set, drop, length-append, length-map}
use lib.Seq.{drop-cons, set_at}
use Rattle.model.specs.Lists.{upward, sum_below}
use Rattle.model.specs.Closing.{Piece, pairs}
use Rattle.model.proofs.Buckets.{upward_cong}
use Rattle.model.specs.Section.{item_at}
use Rattle.verdicts.specs.declared.Verdict.{Verdict}
use Rattle.verdicts.specs.Orderly.{Orderly}
use Rattle.verdicts.specs.Verdicts.{Verdicts}
use Rattle.install.specs.Pieces.{pieces_of, with_pieces, count_of, with_streams}
use Rattle.install.proofs.ToModel.{pieces_are}
use Rattle.epoch.specs.Closed.{listed_in}

numbers_append : (ps qs : List Piece) → pairs (ps ++ qs) ≡ pairs ps ++ pairs qs
unfolding pairs
numbers_append [] qs = refl
numbers_append (p ∷ ps) qs = rw (numbers_append ps qs)

pub length_numbers : (ps : List Piece) → length (pairs ps) ≡ length ps * 2
unfolding pairs
length_numbers [] = omega arith
length_numbers (p ∷ ps) = omega (arith, length_numbers ps)

upward_snoc : {X : Type 0} (c n : ℕ) (g : ℕ → List X) → upward (suc c) n g ≡ upward c n g ++ g (n + c)
unfolding upward
upward_snoc zero n g = let z : n + 0 ≡ n = omega arith in rw z (append-nil (g n))
upward_snoc (suc c) n g =
    let z : n + suc c ≡ suc n + c = omega arith in
    ap (λ ys. g n ++ ys) (upward_snoc c (suc n) g) ∙ rw z (sym (append_assoc (g n) (upward c (suc n) g) (g (suc n + c))))

-- one pair after the list F
pair : (F l : List ℕ) (p s t : ℕ) → length F ≡ p * 2 → p * 2 + 1 < length l → set (set (F ++ drop (p * 2) l) (p * 2) s) (p * 2 + 1) t ≡ (F ++ (s ∷ t ∷ [])) ++ drop (suc p * 2) l
pair F l p s t e u =
    let z : suc (suc (p * 2)) ≡ suc p * 2 = omega arith in
    let a : drop (p * 2) l ≡ get_or l (p * 2) 0 ∷ get_or l (suc (p * 2)) 0 ∷ drop (suc p * 2) l = drop-cons l (p * 2) 0 (omega arith) ∙ ap (λ ys. get_or l (p * 2) 0 ∷ ys) (drop-cons l (suc (p * 2)) 0 (omega arith) ∙ rw z) in
    let r = drop (suc p * 2) l in
    let b : set (F ++ (get_or l (p * 2) 0 ∷ get_or l (suc (p * 2)) 0 ∷ r)) (p * 2) s ≡ F ++ (s ∷ get_or l (suc (p * 2)) 0 ∷ r) = set_at F (get_or l (p * 2) 0) (get_or l (suc (p * 2)) 0 ∷ r) s (p * 2) e in
    let c : F ++ (s ∷ get_or l (suc (p * 2)) 0 ∷ r) ≡ (F ++ s ∷ []) ++ (get_or l (suc (p * 2)) 0 ∷ r) = sym (append_assoc F (s ∷ []) (get_or l (suc (p * 2)) 0 ∷ r)) in
    let d : set ((F ++ s ∷ []) ++ (get_or l (suc (p * 2)) 0 ∷ r)) (p * 2 + 1) t ≡ (F ++ s ∷ []) ++ (t ∷ r) = set_at (F ++ s ∷ []) (get_or l (suc (p * 2)) 0) r t (p * 2 + 1) (length-append F (s ∷ []) ∙ rw e) in
    ap (λ m. set (set (F ++ m) (p * 2) s) (p * 2 + 1) t) a ∙ ap (λ m. set m (p * 2 + 1) t) (b ∙ c) ∙ d ∙ append_assoc F (s ∷ []) (t ∷ r) ∙ sym (append_assoc F (s ∷ t ∷ []) r)

abbrev pub piece : ℕ → ℕ → Piece
piece s t = record { fragment = s; transaction = t }

module _ (h : List ℕ) where
  abbrev pub pairs_of : ℕ → List ℕ → List Piece
  pairs_of s is = map (piece s) (map (λ i. (item_at h i).entry.transaction) is)

  with_is : (l : List ℕ) (s : ℕ) (is F : List ℕ) (p : ℕ) → length F ≡ p * 2 → (p + length is) * 2 ≤ length l → with_pieces h (F ++ drop (p * 2) l) p s is ≡ (F ++ pairs (pairs_of s is)) ++ drop ((p + length is) * 2) l
  unfolding with_pieces pairs
  with_is l s [] F p e u = let z : p + 0 ≡ p = omega arith in rw (z, append-nil F)
  with_is l s (i ∷ is) F p e u =
      let t = (item_at h i).entry.transaction in
      let z : p + suc (length is) ≡ suc p + length is = omega arith in
      ap (λ m. with_pieces h m (suc p) s is) (pair F l p s t e (omega arith))
      ∙ with_is l s is (F ++ (s ∷ t ∷ [])) (suc p) (length-append F (s ∷ t ∷ []) ∙ omega (arith, e)) (omega arith)
      ∙ rw (z, append_assoc F (s ∷ t ∷ []) (pairs (pairs_of s is)))

  module _ (answers : List (Option Verdict)) (n : ℕ) where
    abbrev pub listed_by : ℕ → List Piece
    listed_by f = upward f 0 (λ s. pairs_of s (pieces_of answers h n s))

    listed_more : (f : ℕ) → listed_by (suc f) ≡ listed_by f ++ pairs_of f (pieces_of answers h n f)
    listed_more f = upward_snoc f 0 (λ s. pairs_of s (pieces_of answers h n s)) ∙ (let z : 0 + f ≡ f = omega arith in rw z)

    pub length_listed : (f : ℕ) → length (listed_by f) ≡ count_of answers h n f
    unfolding upward sum_below
    length_listed zero = refl
    length_listed (suc f) =
        omega (
          arith,
          length_listed f,
          ap length (listed_more f),
          length-append (listed_by f) (pairs_of f (pieces_of answers h n f)),
          length-map (map (λ i. (item_at h i).entry.transaction) (pieces_of answers h n f)) (piece f),
          length-map (pieces_of answers h n f) (λ i. (item_at h i).entry.transaction),
        )

    pub streams_are : (l : List ℕ) (f : ℕ) → count_of answers h n f * 2 ≤ length l → with_streams answers h n l f ≡ pairs (listed_by f) ++ drop (count_of answers h n f * 2) l
    unfolding with_streams pairs upward sum_below
    streams_are l zero u = refl
    streams_are l (suc f) u =
        let p = count_of answers h n f in
        let is = pieces_of answers h n f in
        ap (λ m. with_pieces h m p f is) (streams_are l f (omega arith))
        ∙ with_is l f is (pairs (listed_by f)) p (length_numbers (listed_by f) ∙ ap (λ m. m * 2) (length_listed f)) u
        ∙ ap (λ m. m ++ drop ((p + length is) * 2) l) (sym (ap pairs (listed_more f) ∙ numbers_append (listed_by f) (pairs_of f is)))

    pub listed_is : (e f : ℕ) → Orderly h n → Verdicts answers h n e → listed_by f ≡ listed_in h n e f
    unfolding listed_in
    listed_is e f o w = upward_cong f 0 _ _ (λ s l u. ap (map (piece s)) (pieces_are answers h n e o w s))
