-- What a run's lists have: a piece is in the list of a close exactly where that close installs it. Assumes nothing.
use Prim.Native.Nat.{ℕ, zero, suc, ◌+◌, ◌≤◌, ◌<◌}
use mathlib.Core.Path.{◌≡◌, refl, sym, ap, ◌∙◌}
use mathlib.Core.Logic.{◌⊎◌, inl, inr}
use mathlib.Core.Bool.{Bool, true, ◌&&◌, ◌||◌, or-true}
use mathlib.Core.List.{List, [], ◌∷◌, map}
use native.Mathlib.Omega.{arith}
use native.Mathlib.Decide.{ℕ_discrete}
use lib.Dec.{eqb}
use lib.ListN.{length, get_or}
use borrow.Author.Tests.{eq-eqb, eqb-true}
use Rattle.model.specs.Lists.{any, upward}
use Rattle.model.specs.Account.{Account}
use Rattle.model.specs.Closing.{close, installed, Piece, listed}
use Rattle.model.specs.Installed.{has_piece, is_installed}
use Rattle.model.proofs.Tests.{no_way, and_l, and_r, either, any_append, any_in, any_out}
use Rattle.model.proofs.Runs.{closes, closes_lists, closes_front}
use Rattle.model.proofs.Together.{any_map}

-- ---- a test that passes at some place

module _ {X : Type 0} (p : X → Bool) where
  any_upward : (c n : ℕ) (g : ℕ → List X) → any p (upward c n g) ≡ true → (j : ℕ) × (n ≤ j) × (j < n + c) × (any p (g j) ≡ true)
  unfolding upward any
  any_upward zero n g e = no_way e
  any_upward (suc c) n g e = go (either _ _ (sym (any_append p (g n) (upward c (suc n) g)) ∙ e)) (any_upward c (suc n) g)
    where
      go : (any p (g n) ≡ true) ⊎ (any p (upward c (suc n) g) ≡ true) → (any p (upward c (suc n) g) ≡ true → (j : ℕ) × (suc n ≤ j) × (j < suc n + c) × (any p (g j) ≡ true))
          → (j : ℕ) × (n ≤ j) × (j < n + suc c) × (any p (g j) ≡ true)
      go (inl t) ih = (n, omega arith, omega arith, t)
      go (inr t) ih = let r = ih t in (r.0, omega (arith, r.1), omega (arith, r.2), r.3)

  upward_any : (c n j : ℕ) (g : ℕ → List X) → n ≤ j → j < n + c → any p (g j) ≡ true → any p (upward c n g) ≡ true
  unfolding upward
  upward_any zero n j g l u t = absurd (omega arith)
  upward_any (suc c) n j g l u t = any_append p (g n) (upward c (suc n) g) ∙ go (ℕ_discrete n j) (λ m. upward_any c (suc n) j g m (omega arith) t)
    where
      go : Dec (n ≡ j) → (suc n ≤ j → any p (upward c (suc n) g) ≡ true) → (any p (g n) || any p (upward c (suc n) g)) ≡ true
      go (yes e) ih = rw (e, t)
      go (no e) ih = rw (ih (omega arith)) (or-true (any p (g n)))

-- ---- one close

abbrev pub Lists : Account → ℕ → ℕ → Type 0
Lists a i t = any (λ u. eqb u t) (installed a i) ≡ true

module _ (a : Account) (i t : ℕ) where
  abbrev is_piece : Piece → Bool
  is_piece p = eqb p.fragment i && eqb p.transaction t

  pub piece_out : has_piece i t (listed a) ≡ true → (i < a.fragments) × Lists a i t
  unfolding has_piece listed
  piece_out e = go (any_upward is_piece a.fragments 0 (λ j. map (λ u. record { fragment = j; transaction = u }) (installed a j)) e)
    where
      go : (j : ℕ) × (0 ≤ j) × (j < 0 + a.fragments) × (any is_piece (map (λ u. record { fragment = j; transaction = u }) (installed a j)) ≡ true) → (i < a.fragments) × Lists a i t
      go (j, l, u, w) =
          let r = any_out (λ u. eqb j i && eqb u t) (installed a j) (sym (any_map is_piece (λ u. record { fragment = j; transaction = u }) (installed a j)) ∙ w) in
          let q = eqb-true j i (and_l _ _ r.2) in
          (omega arith, rw q at (any_in (λ u. eqb u t) r.1 (and_r (eqb j i) _ r.2)))

  pub piece_in : i < a.fragments → Lists a i t → has_piece i t (listed a) ≡ true
  unfolding has_piece listed
  piece_in l e =
      let r = any_out (λ u. eqb u t) (installed a i) e in
      upward_any is_piece a.fragments 0 i (λ j. map (λ u. record { fragment = j; transaction = u }) (installed a j)) (omega arith) (omega arith)
      (any_map is_piece (λ u. record { fragment = i; transaction = u }) (installed a i) ∙ any_in (λ u. eqb i i && eqb u t) r.1 (rw (eq-eqb i i refl) r.2))

-- ---- all closes

length_lists : (m : ℕ) (a : Account) → length (closes_lists m a) ≡ m
unfolding closes_lists
length_lists zero a = refl
length_lists (suc m) a = ap suc (length_lists m (close a))

pub list_of : (m c : ℕ) (a : Account) → c < m → get_or (closes_lists m a) c [] ≡ listed (closes c a)
unfolding closes_lists closes
list_of zero c a l = absurd (omega arith)
list_of (suc m) zero a l = refl
list_of (suc m) (suc c) a l = list_of m c (close a) (omega arith) ∙ ap listed (closes_front c a)

pub list_past : (m c : ℕ) (a : Account) → m ≤ c → get_or (closes_lists m a) c [] ≡ []
unfolding closes_lists
list_past zero c a l = refl
list_past (suc m) zero a l = absurd (omega arith)
list_past (suc m) (suc c) a l = list_past m c (close a) (omega arith)

module _ {X : Type 0} (p : X → Bool) (d : X) where
  any_at : (xs : List X) → any p xs ≡ true → (c : ℕ) × (c < length xs) × (p (get_or xs c d) ≡ true)
  unfolding any
  any_at [] e = no_way e
  any_at (x ∷ xs) e = go (either (p x) _ e) (any_at xs)
    where
      go : (p x ≡ true) ⊎ (any p xs ≡ true) → (any p xs ≡ true → (c : ℕ) × (c < length xs) × (p (get_or xs c d) ≡ true)) → (c : ℕ) × (c < suc (length xs)) × (p (get_or (x ∷ xs) c d) ≡ true)
      go (inl t) ih = (0, omega arith, t)
      go (inr t) ih = let r = ih t in (suc r.0, omega (arith, r.1), r.2)

  at_any : (xs : List X) (c : ℕ) → c < length xs → p (get_or xs c d) ≡ true → any p xs ≡ true
  unfolding any
  at_any [] c l e = absurd (omega arith)
  at_any (x ∷ xs) zero l e = rw e
  at_any (x ∷ xs) (suc c) l e = rw (at_any xs c (omega arith) e) (or-true (p x))

pub installed_out : (m i t : ℕ) (a : Account) → is_installed (closes_lists m a) i t ≡ true → (c : ℕ) × (c < m) × (has_piece i t (listed (closes c a)) ≡ true)
unfolding is_installed
installed_out m i t a e =
    let r = any_at (has_piece i t) [] (closes_lists m a) e in
    let l : r.0 < m = omega (arith, r.1, length_lists m a) in
    (r.0, l, ap (has_piece i t) (sym (list_of m r.0 a l)) ∙ r.2)

pub installed_in : (m i t c : ℕ) (a : Account) → c < m → has_piece i t (listed (closes c a)) ≡ true → is_installed (closes_lists m a) i t ≡ true
unfolding is_installed
installed_in m i t c a l e = at_any (has_piece i t) [] (closes_lists m a) c (omega (arith, length_lists m a)) (ap (has_piece i t) (list_of m c a l) ∙ e)
