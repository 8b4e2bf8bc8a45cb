-- Lists that are parts by number, one after the other: a rising list is its parts, and the parts of such a list are got back. Assumes nothing.
use Prim.Native.Nat.{ℕ, zero, suc, ◌+◌, ◌*◌, ◌<◌, ◌≤◌}
use mathlib.Core.Path.{◌≡◌, refl, ap, ◌∙◌}
use mathlib.Core.Bool.{Bool, true}
use mathlib.Core.List.{List, [], ◌∷◌, ◌++◌, append-nil}
use native.Mathlib.Omega.{arith}
use native.Mathlib.Nat.{suc-mul}
use native.Mathlib.Decide.{ℕ_discrete}
use lib.ListN.{length, get_or, length-append}
use lib.Seq.{ext_get_or}
use lib.Dec.{eqb}
use borrow.Author.Tests.{eq-eqb, ne_eqb}
use Rattle.std.specs.Prelude.{if◌then◌else◌}
use Rattle.model.specs.Lists.{filter, all, upward, sum_below}
use Rattle.model.proofs.Tests.{and_l, and_r}

module _ {X : Type 0} where
  pub upward_cong : (c n : ℕ) (p r : ℕ → List X) → ((i : ℕ) → n ≤ i → i < n + c → p i ≡ r i) → upward c n p ≡ upward c n r
  unfolding upward
  upward_cong zero n p r e = refl
  upward_cong (suc c) n p r e = rw (e n (omega arith) (omega arith), upward_cong c (suc n) p r (λ i l u. e i (omega arith) (omega arith)))

  pub upward_none : (c n : ℕ) → ◌≡◌ {A = List X} (upward c n (λ i. [])) []
  unfolding upward
  upward_none zero n = refl
  upward_none (suc c) n = upward_none c (suc n)

  -- ---- lengths

  pub length_upward : (c n : ℕ) (p : ℕ → List X) → length (upward c n p) + sum_below (λ i. length (p i)) n ≡ sum_below (λ i. length (p i)) (n + c)
  unfolding upward sum_below
  length_upward zero n p = let z : n + 0 ≡ n = omega arith in rw z (omega arith)
  length_upward (suc c) n p =
      let z : n + suc c ≡ suc n + c = omega arith in
      rw z (omega (arith, length-append (p n) (upward c (suc n) p), length_upward c (suc n) p))

  pub upward_most : (c n b : ℕ) (p : ℕ → List X) → ((i : ℕ) → length (p i) ≤ b) → length (upward c n p) ≤ c * b
  unfolding upward
  upward_most zero n b p h = omega arith
  upward_most (suc c) n b p h = omega (arith, length-append (p n) (upward c (suc n) p), h n, upward_most c (suc n) b p h, suc-mul c b)

-- ---- what a function that goes part by part keeps of such a list

module _ {X Y : Type 0} (keep : List X → List Y) (nil : keep [] ≡ []) (append : (xs ys : List X) → keep (xs ++ ys) ≡ keep xs ++ keep ys) (p : ℕ → List X) where
  pub keeps_none : (c n : ℕ) → ((j : ℕ) → n ≤ j → j < n + c → keep (p j) ≡ []) → keep (upward c n p) ≡ []
  unfolding upward
  keeps_none zero n e = nil
  keeps_none (suc c) n e = append (p n) (upward c (suc n) p) ∙ rw (e n (omega arith) (omega arith), keeps_none c (suc n) (λ j l u. e j (omega arith) (omega arith)))

  pub keeps_one : (c n i : ℕ) → n ≤ i → i < n + c → ((j : ℕ) → (j ≡ i → ⊥) → keep (p j) ≡ []) → keep (upward c n p) ≡ keep (p i)
  unfolding upward
  keeps_one zero n i l u e = absurd (omega arith)
  keeps_one (suc c) n i l u e = append (p n) (upward c (suc n) p) ∙ go (ℕ_discrete n i) (λ m. keeps_one c (suc n) i m (omega arith) e)
    where
      go : Dec (n ≡ i) → (suc n ≤ i → keep (upward c (suc n) p) ≡ keep (p i)) → keep (p n) ++ keep (upward c (suc n) p) ≡ keep (p i)
      go (yes q) ih = rw (keeps_none c (suc n) (λ j a b. e j (λ z. omega arith)), q, append-nil (keep (p i)))
      go (no q) ih = rw (e n q) (ih (omega arith))

-- ---- parts of one element each

module _ {X : Type 0} (g : ℕ → X) where
  abbrev pub singles : ℕ → ℕ → List X
  singles c n = upward c n (λ i. g i ∷ [])

  pub length_singles : (c n : ℕ) → length (singles c n) ≡ c
  unfolding upward
  length_singles zero n = refl
  length_singles (suc c) n = ap suc (length_singles c (suc n))

  pub get_or_singles : (d : X) (c n i : ℕ) → i < c → get_or (singles c n) i d ≡ g (n + i)
  unfolding upward
  get_or_singles d zero n i h = absurd (omega arith)
  get_or_singles d (suc c) n zero h = let z : n + 0 ≡ n = omega arith in rw z
  get_or_singles d (suc c) n (suc i) h = let z : n + suc i ≡ suc n + i = omega arith in rw z (get_or_singles d c (suc n) i (omega arith))

  pub all_in : (p : X → Bool) (c n : ℕ) → all p (singles c n) ≡ true → (i : ℕ) → n ≤ i → i < n + c → p (g i) ≡ true
  unfolding upward all
  all_in p zero n w i l u = absurd (omega arith)
  all_in p (suc c) n w i l u = go (ℕ_discrete n i) (all_in p c (suc n) (and_r (p (g n)) _ w) i)
    where
      go : Dec (n ≡ i) → (suc n ≤ i → i < suc n + c → p (g i) ≡ true) → p (g i) ≡ true
      go (yes e) ih = rw e at (and_l (p (g n)) _ w)
      go (no e) ih = ih (omega arith) (omega arith)

  pub all_of : (p : X → Bool) (c n : ℕ) → ((i : ℕ) → n ≤ i → i < n + c → p (g i) ≡ true) → all p (singles c n) ≡ true
  unfolding upward all
  all_of p zero n f = refl
  all_of p (suc c) n f = rw (f n (omega arith) (omega arith), all_of p c (suc n) (λ i l u. f i (omega arith) (omega arith)))

-- a list is its elements, one after the other
pub singles_get_or : {X : Type 0} (d : X) (xs : List X) → singles (λ i. get_or xs i d) (length xs) 0 ≡ xs
singles_get_or d xs =
    ext_get_or d (singles (λ i. get_or xs i d) (length xs) 0) xs (length_singles (λ i. get_or xs i d) (length xs) 0)
    (λ i h. let z : 0 + i ≡ i = omega arith in get_or_singles (λ i. get_or xs i d) d (length xs) 0 i (omega (arith, length_singles (λ i. get_or xs i d) (length xs) 0)) ∙ rw z)

-- ---- a list that rises by a number

module _ {X : Type 0} (q : X → ℕ) where
  -- from n on, below b
  unfoldable pub Rising : ℕ → ℕ → List X → Type 0
  Rising n b [] = Unit {0}
  Rising n b (x ∷ xs) = (n ≤ q x) × (q x < b) × Rising (q x) b xs

  rising_weaken : (m n b : ℕ) (xs : List X) → m ≤ n → Rising n b xs → Rising m b xs
  unfolding Rising
  rising_weaken m n b [] h r = r
  rising_weaken m n b (x ∷ xs) h r = (omega (arith, r.0), r.1, r.2)

  abbrev pub at : ℕ → List X → List X
  at i xs = filter (λ x. eqb (q x) i) xs

  none_below : (i n b : ℕ) (xs : List X) → i < n → Rising n b xs → at i xs ≡ []
  unfolding Rising filter
  none_below i n b [] h r = refl
  none_below i n b (x ∷ xs) h r = rw (ne_eqb (q x) i (λ e. omega (arith, r.0))) (none_below i (q x) b xs (omega (arith, r.0)) r.2)

  -- x comes first when the parts before its own are empty
  first : (x : X) (p : ℕ → List X) (c n : ℕ) → n ≤ q x → q x < n + c → ((j : ℕ) → j < q x → p j ≡ []) → upward c n (λ i. if eqb (q x) i then x ∷ p i else p i) ≡ x ∷ upward c n p
  unfolding upward
  first x p zero n l u e = absurd (omega arith)
  first x p (suc c) n l u e = go (ℕ_discrete (q x) n) (λ m. first x p c (suc n) m (omega arith) e)
    where
      go : Dec (q x ≡ n) → (suc n ≤ q x → upward c (suc n) (λ i. if eqb (q x) i then x ∷ p i else p i) ≡ x ∷ upward c (suc n) p)
          → (if eqb (q x) n then x ∷ p n else p n) ++ upward c (suc n) (λ i. if eqb (q x) i then x ∷ p i else p i) ≡ x ∷ (p n ++ upward c (suc n) p)
      go (yes z) ih = rw (eq-eqb (q x) n z, upward_cong c (suc n) (λ i. if eqb (q x) i then x ∷ p i else p i) p (λ i a b. rw (ne_eqb (q x) i (λ y. omega arith))))
      go (no z) ih = rw (ne_eqb (q x) n z, e n (omega arith), ih (omega arith))

  pub buckets : (c b n : ℕ) (xs : List X) → b ≤ n + c → Rising n b xs → upward c n (λ i. at i xs) ≡ xs
  unfolding Rising filter
  buckets c b n [] h r = upward_none c n
  buckets c b n (x ∷ xs) h r = first x (λ i. at i xs) c n r.0 (omega (arith, r.1)) (λ j u. none_below j (q x) b xs u r.2) ∙ rw (buckets c b n xs h (rising_weaken n (q x) b xs r.0 r.2))
