-- Writes of one key, in the order of the stream and in the order of the pieces. Assumes nothing.
use Prim.Native.Nat.{ℕ, zero, suc, ◌<◌}
use mathlib.Core.Path.{◌≡◌, refl, sym, ap, ◌∙◌, fun_ext}
use mathlib.Core.Logic.{◌⊎◌, inl, inr}
use mathlib.Core.Bool.{Bool, true, false, ◌&&◌, ◌||◌, or-false, or_assoc}
use mathlib.Core.List.Memᴰ
use mathlib.Core.List.{List, [], ◌∷◌, ◌++◌, map, Memᴰ}
use native.Mathlib.Omega.{arith}
use lib.Dec.{eqb}
use borrow.Author.Tests.{eqb-true}
use Rattle.std.specs.Prelude.{if◌then◌else◌}
use Rattle.model.specs.Lists.{filter, any}
use Rattle.model.specs.Account.{Held, Record}
use Rattle.model.specs.Closing.{writes_to, written, after_writes, apply}
use Rattle.model.specs.Rules.{At, here, there}
use Rattle.model.proofs.Tests.{no_way}
use Rattle.model.proofs.Working.{In}

-- nobody that D picks writes key k
pub after_none : (D : ℕ → Bool) (k : ℕ) (hs : List Held) → ((p : ℕ) (h : Held) → At h hs p → (writes_to k h && D h.transaction) ≡ false) → (x : Record) → after_writes D k hs x ≡ x
unfolding after_writes
after_none D k [] f x = refl
after_none D k (h ∷ hs) f x = rw (f zero h (here refl)) (after_none D k hs (λ p g a. f (suc p) g (there a)) x)

-- one transaction more, of whose writes of k none stands before a write of k by one that D picks
one_more_law : (D : ℕ → Bool) (k t : ℕ) (hs : List Held)
    → ((p q : ℕ) (h g : Held) → p < q → At h hs p → At g hs q → writes_to k h ≡ true → h.transaction ≡ t → (writes_to k g && D g.transaction) ≡ false)
    → (x : Record) → after_writes (λ u. D u || eqb u t) k hs x ≡ after_writes (λ u. eqb u t) k hs (after_writes D k hs x)
unfolding after_writes
one_more_law D k t [] f x = refl
one_more_law D k t (h ∷ hs) f x = go (writes_to k h) refl (D h.transaction) (eqb h.transaction t) refl (one_more_law D k t hs (λ p q h g l a b. f (suc p) (suc q) h g (omega arith) (there a) (there b)))
  where
    go : (b : Bool) → writes_to k h ≡ b → (d e : Bool) → eqb h.transaction t ≡ e
        → ((y : Record) → after_writes (λ u. D u || eqb u t) k hs y ≡ after_writes (λ u. eqb u t) k hs (after_writes D k hs y))
        → after_writes (λ u. D u || eqb u t) k hs (if b && (d || e) then written h else x)
        ≡ after_writes (λ u. eqb u t) k hs (if b && e then written h else after_writes D k hs (if b && d then written h else x))
    go false w d e q ih = ih x
    go true w true false q ih = ih (written h)
    go true w false false q ih = ih x
    go true w true true q ih = ih (written h) ∙ rw (after_none D k hs (λ p g a. f zero (suc p) h g (omega arith) (here refl) (there a) w (eqb-true h.transaction t q)) (written h))
    go true w false true q ih = ih (written h) ∙ rw (after_none D k hs (λ p g a. f zero (suc p) h g (omega arith) (here refl) (there a) w (eqb-true h.transaction t q)) (written h))

-- entries may be left out that are no writes of k by those that D picks
pub after_filter : (D : ℕ → Bool) (k : ℕ) (q : Held → Bool) (hs : List Held) → ((h : Held) → In h hs → (writes_to k h && D h.transaction) ≡ true → q h ≡ true) → (y : Record)
    → after_writes D k (filter q hs) y ≡ after_writes D k hs y
unfolding after_writes filter
after_filter D k q [] f y = refl
after_filter D k q (h ∷ hs) f y = go (q h) refl (writes_to k h && D h.transaction) refl (after_filter D k q hs (λ g m. f g (Memᴰ.tail m)))
  where
    go : (b : Bool) → q h ≡ b → (w : Bool) → (writes_to k h && D h.transaction) ≡ w → ((y : Record) → after_writes D k (filter q hs) y ≡ after_writes D k hs y)
        → after_writes D k (if b then h ∷ filter q hs else filter q hs) y ≡ after_writes D k hs (if w then written h else y)
    go true l w e ih = rw (e, after_writes) (ih (if w then written h else y))
    go false l true e ih = no_way (sym l ∙ f h (Memᴰ.head refl) e)
    go false l false e ih = ih y

-- ---- one piece after the other

-- every earlier one stands in R to every later one
abbrev pub Pairs : (ℕ → ℕ → Type 0) → List ℕ → Type 0
Pairs R [] = Unit {0}
Pairs R (t ∷ ts) = ((u : ℕ) → Memᴰ u ts → R t u) × Pairs R ts

pub pairs_append : (R : ℕ → ℕ → Type 0) (xs ys : List ℕ) → Pairs R xs → Pairs R ys → ((x y : ℕ) → Memᴰ x xs → Memᴰ y ys → R x y) → Pairs R (xs ++ ys)
pairs_append R [] ys p q f = q
pairs_append R (x ∷ xs) ys p q f =
    (λ u m. go u (Memᴰ.append_cases xs m), pairs_append R xs ys p.1 q (λ a b m. f a b (Memᴰ.tail m)))
  where
    go : (u : ℕ) → Memᴰ u xs ⊎ Memᴰ u ys → R x u
    go u (inl m) = p.0 u m
    go u (inr m) = f x u (Memᴰ.head refl) m

-- the transactions of the entries that pass E
unfoldable pub picked : (E : Held → Bool) (es : List Held) → List ℕ
picked E es = map (λ h. h.transaction) (filter E es)

abbrev pub Picked : (Held → Bool) → List Held → ℕ → Type 0
Picked E es u = (p : ℕ) × (e : Held) × At e es p × (E e ≡ true) × (u ≡ e.transaction)

pub in_picked : (E : Held → Bool) (es : List Held) (u : ℕ) → Memᴰ u (picked E es) → Picked E es u
unfolding picked filter
in_picked E [] u m = absurd (Memᴰ.not-nil m)
in_picked E (e ∷ es) u m = go (E e) refl m (in_picked E es u)
  where
    rest : (Memᴰ u (picked E es) → Picked E es u) → Memᴰ u (picked E es) → Picked E (e ∷ es) u
    rest ih m = let r = ih m in (suc r.0, r.1, there r.2, r.3, r.4)

    cases : E e ≡ true → (Memᴰ u (picked E es) → Picked E es u) → (u ≡ e.transaction) ⊎ Memᴰ u (picked E es) → Picked E (e ∷ es) u
    cases t ih (inl q) = (zero, e, here refl, t, q)
    cases t ih (inr m) = rest ih m

    go : (b : Bool) → E e ≡ b → Memᴰ u (map (λ h. h.transaction) (if b then e ∷ filter E es else filter E es)) → (Memᴰ u (picked E es) → Picked E es u) → Picked E (e ∷ es) u
    go true t m ih = cases t ih (Memᴰ.cases_cons m)
    go false t m ih = rest ih m

pub picked_in : (E : Held → Bool) {e : Held} {es : List Held} {p : ℕ} → At e es p → E e ≡ true → Memᴰ e.transaction (picked E es)
unfolding picked filter
picked_in E (here {x = x} q) t = rw (sym (ap E q) ∙ t) (Memᴰ.head (ap (λ r. r.transaction) q))
picked_in E (there {x = x} {xs = xs} a) t = go (E x) (picked_in E a t)
  where
    go : {u : ℕ} (b : Bool) → Memᴰ u (picked E xs) → Memᴰ u (map (λ h. h.transaction) (if b then x ∷ filter E xs else filter E xs))
    go true m = Memᴰ.tail m
    go false m = m

pub pairs_picked : (R : ℕ → ℕ → Type 0) (E : Held → Bool) (es : List Held) → ((p q : ℕ) (e f : Held) → p < q → At e es p → At f es q → E e ≡ true → E f ≡ true → R e.transaction f.transaction) → Pairs R (picked E es)
unfolding picked filter
pairs_picked R E [] f = tt
pairs_picked R E (e ∷ es) f = go (E e) refl (pairs_picked R E es (λ p q a b l x y. f (suc p) (suc q) a b (omega arith) (there x) (there y)))
  where
    go : (b : Bool) → E e ≡ b → Pairs R (picked E es) → Pairs R (map (λ h. h.transaction) (if b then e ∷ filter E es else filter E es))
    go true t ih = (λ u m. let r = in_picked E es u m in rw r.4 (f zero (suc r.0) e r.1 (omega arith) (here refl) (there r.2) t r.3), ih)
    go false t ih = ih

-- ---- all the pieces of a close

-- the writes of k by x all stand before those by u
abbrev pub Clear : ℕ → List Held → ℕ → ℕ → Type 0
Clear k hs x u = (p q : ℕ) (h g : Held) → p < q → At h hs p → At g hs q → writes_to k h ≡ true → h.transaction ≡ u → writes_to k g ≡ true → g.transaction ≡ x → ⊥

pub apply_all : (k : ℕ) (hs es : List Held) (y : Record) (D : ℕ → Bool) (ts : List ℕ)
    → ((t : ℕ) → Memᴰ t ts → (c : Record) → after_writes (λ u. eqb u t) k es c ≡ after_writes (λ u. eqb u t) k hs c)
    → ((x u : ℕ) → D x ≡ true → Memᴰ u ts → Clear k hs x u) → Pairs (Clear k hs) ts
    → apply ts k es (after_writes D k hs y) ≡ after_writes (λ u. D u || any (λ t. eqb u t) ts) k hs y
unfolding apply any
apply_all k hs es y D [] own clear ps = rw (fun_ext (λ u. or-false (D u)))
apply_all k hs es y D (t ∷ ts) own clear ps =
    ap (apply ts k es) (own t (Memᴰ.head refl) (after_writes D k hs y) ∙ sym (one_more_law D k t hs cond y))
    ∙ apply_all k hs es y (λ u. D u || eqb u t) ts (λ u m. own u (Memᴰ.tail m)) (λ x u d m. next x u m (D x) refl (eqb x t) refl d) ps.1
    ∙ ap (λ E. after_writes E k hs y) (fun_ext (λ u. or_assoc (D u) (eqb u t) (any (λ t. eqb u t) ts)))
  where
    cond : (p q : ℕ) (h g : Held) → p < q → At h hs p → At g hs q → writes_to k h ≡ true → h.transaction ≡ t → (writes_to k g && D g.transaction) ≡ false
    cond p q h g l a b w e = go (writes_to k g) refl (D g.transaction) refl
      where
        go : (c : Bool) → writes_to k g ≡ c → (d : Bool) → D g.transaction ≡ d → (c && d) ≡ false
        go true i true j = absurd (clear g.transaction t j (Memᴰ.head refl) p q h g l a b w e i refl)
        go true i false j = refl
        go false i d j = refl

    next : (x u : ℕ) → Memᴰ u ts → (c : Bool) → D x ≡ c → (d : Bool) → eqb x t ≡ d → (c || d) ≡ true → Clear k hs x u
    next x u m true i d j e = clear x u i (Memᴰ.tail m)
    next x u m false i true j e = rw (eqb-true x t j) (ps.0 u m)
    next x u m false i false j e = no_way e
