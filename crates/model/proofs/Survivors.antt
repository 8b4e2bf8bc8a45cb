-- What a close leaves held: entries of the stream in their order, some left out and some flagged. Assumes nothing.
use Prim.Native.Nat.{ℕ, zero, suc, ◌≤◌, ◌<◌}
use mathlib.Core.Path.{◌≡◌, refl, sym, ap, ◌∙◌}
use mathlib.Core.Logic.{◌⊎◌, inl, inr}
use mathlib.Core.Bool.{Bool, true, false}
use mathlib.Core.List.Memᴰ
use mathlib.Core.List.{List, [], ◌∷◌, ◌++◌}
use native.Mathlib.Omega.{arith}
use lib.Dec.{leb, eqb}
use borrow.Author.Tests.{le-leb, leb-false, eqb-true}
use Rattle.std.specs.Prelude.{if◌then◌else◌}
use Rattle.model.specs.Lists.{filter}
use Rattle.model.specs.Entry.{P}
use Rattle.model.specs.Account.{Held}
use Rattle.model.specs.Closing.{Verdict, free, install, flag, stay, with_flag, left, survivors}
use Rattle.model.specs.Rules.{At, here, there}
use Rattle.model.proofs.Working.{In}

-- ---- order

-- equal but for the flag
pub record Same (h g : Held) : Type 0 where
  pub kind : h.kind ≡ g.kind
  pub transaction : h.transaction ≡ g.transaction
  pub epoch : h.epoch ≡ g.epoch

equal_same : {h g f : Held} → h ≡ g → Same g f → Same h f
equal_same e s = record { kind = ap (λ r. r.kind) e ∙ s.kind; transaction = ap (λ r. r.transaction) e ∙ s.transaction; epoch = ap (λ r. r.epoch) e ∙ s.epoch }

-- the first list is the second with entries left out, and but for flags
pub data Thinned : List Held → List Held → Type 0 where
  none : {ys : List Held} → Thinned [] ys
  skip : {y : Held} {xs ys : List Held} → Thinned xs ys → Thinned xs (y ∷ ys)
  keep : {x y : Held} {xs ys : List Held} → Same x y → Thinned xs ys → Thinned (x ∷ xs) (y ∷ ys)

pub thinned_self : (xs : List Held) → Thinned xs xs
thinned_self [] = none
thinned_self (x ∷ xs) = keep (record { kind = refl; transaction = refl; epoch = refl }) (thinned_self xs)

pub thinned_filter : (p : Held → Bool) {xs ys : List Held} → Thinned xs ys → Thinned (filter p xs) ys
unfolding filter
thinned_filter p none = none
thinned_filter p (skip m) = skip (thinned_filter p m)
thinned_filter p (keep {x = x} {y = y} {ys = ys} s m) = go (p x) (thinned_filter p m)
  where
    go : {zs : List Held} (b : Bool) → Thinned zs ys → Thinned (if b then x ∷ zs else zs) (y ∷ ys)
    go true r = keep s r
    go false r = skip r

pub thinned_survivors : (n : ℕ) (v : ℕ → Verdict) {xs ys : List Held} → Thinned xs ys → Thinned (survivors n v xs) ys
unfolding survivors left
thinned_survivors n v none = none
thinned_survivors n v (skip m) = skip (thinned_survivors n v m)
thinned_survivors n v (keep {x = x} {y = y} {ys = ys} s m) = go (leb x.epoch n) (v x.transaction) (thinned_survivors n v m)
  where
    flagged : {zs : List Held} (b : Bool) → Thinned zs ys → Thinned ((if b then with_flag x ∷ [] else []) ++ zs) (y ∷ ys)
    flagged true r = keep (record { kind = s.kind; transaction = s.transaction; epoch = s.epoch }) r
    flagged false r = skip r

    go : {zs : List Held} (b : Bool) (w : Verdict) → Thinned zs ys → Thinned ((if b then left w x else x ∷ []) ++ zs) (y ∷ ys)
    go false w r = keep s r
    go true free r = skip r
    go true install r = skip r
    go true stay r = keep s r
    go true flag r = flagged (eqb x.kind P) r

pub thinned_one : {xs ys : List Held} {x : Held} {p : ℕ} → Thinned xs ys → At x xs p → (q : ℕ) × (y : Held) × At y ys q × Same x y
thinned_one (skip m) a = let r = thinned_one m a in (suc r.0, r.1, there r.2, r.3)
thinned_one (keep {y = y} s m) (here e) = (zero, y, here refl, equal_same e s)
thinned_one (keep s m) (there a) = let r = thinned_one m a in (suc r.0, r.1, there r.2, r.3)
thinned_one {p = p} (none {ys = ys}) a = elim a [ ]

pub record Two (ys : List Held) (x y : Held) : Type 0 where
  pub p : ℕ
  pub q : ℕ
  pub first : Held
  pub second : Held
  pub lt : p < q
  pub at_p : At first ys p
  pub at_q : At second ys q
  pub like_p : Same x first
  pub like_q : Same y second

two_later : {ys : List Held} {x y z : Held} → Two ys x y → Two (z ∷ ys) x y
two_later r = record { p = suc r.p; q = suc r.q; first = r.first; second = r.second; lt = omega (arith, r.lt); at_p = there r.at_p; at_q = there r.at_q; like_p = r.like_p; like_q = r.like_q }

pub thinned_two : {xs ys : List Held} {x y : Held} {p q : ℕ} → Thinned xs ys → p < q → At x xs p → At y xs q → Two ys x y
thinned_two (skip m) l a b = two_later (thinned_two m l a b)
thinned_two (keep {y = y} s m) l (here e) (there b) =
    let r = thinned_one m b in
    record { p = zero; q = suc r.0; first = y; second = r.1; lt = omega arith; at_p = here refl; at_q = there r.2; like_p = equal_same e s; like_q = r.3 }
thinned_two (keep s m) l (there a) (there b) = two_later (thinned_two m (omega arith) a b)
thinned_two (keep s m) l a (here f) = absurd (omega arith)
thinned_two {y = y} {p = p} {q = q} (none {ys = ys}) l a b = elim a [ ]

-- ---- what survives

-- h survives as it was, or is a P that was flagged
pub data Survived (n : ℕ) (v : ℕ → Verdict) (h : Held) (hs : List Held) : Type 0 where
  as_was : In h hs → (n < h.epoch) ⊎ (v h.transaction ≡ stay) → Survived n v h hs
  flags_p : v h.transaction ≡ flag → h.kind ≡ P → h.flagged ≡ true → Survived n v h hs

survived_tail : {n : ℕ} {v : ℕ → Verdict} {h g : Held} {hs : List Held} → Survived n v h hs → Survived n v h (g ∷ hs)
survived_tail (as_was x w) = as_was (Memᴰ.tail x) w
survived_tail (flags_p e k f) = flags_p e k f

survived_left : (n : ℕ) (v : ℕ → Verdict) (w : Verdict) (h g : Held) (hs : List Held) → v g.transaction ≡ w → In h (left w g) → Survived n v h (g ∷ hs)
unfolding left
survived_left n v free h g hs e x = absurd (Memᴰ.not-nil x)
survived_left n v install h g hs e x = absurd (Memᴰ.not-nil x)
survived_left n v flag h g hs e x = go (eqb g.kind P) refl x
  where
    go : (b : Bool) → eqb g.kind P ≡ b → In h (if b then with_flag g ∷ [] else []) → Survived n v h (g ∷ hs)
    go true k y = let q = Memᴰ.eq_of_singleton y in flags_p (ap (λ r. v r.transaction) q ∙ e) (ap (λ r. r.kind) q ∙ eqb-true g.kind P k) (ap (λ r. r.flagged) q)
    go false k y = absurd (Memᴰ.not-nil y)
survived_left n v stay h g hs e x = let q = Memᴰ.eq_of_singleton x in as_was (Memᴰ.head q) (inr (ap (λ r. v r.transaction) q ∙ e))

pub survived : (n : ℕ) (v : ℕ → Verdict) (h : Held) (hs : List Held) → In h (survivors n v hs) → Survived n v h hs
unfolding survivors
survived n v h [] x = absurd (Memᴰ.not-nil x)
survived n v h (g ∷ hs) x = go (leb g.epoch n) refl (survived n v h hs) (Memᴰ.append_cases (if leb g.epoch n then left (v g.transaction) g else g ∷ []) x)
  where
    go : (b : Bool) → leb g.epoch n ≡ b → (In h (survivors n v hs) → Survived n v h hs) → In h (if b then left (v g.transaction) g else g ∷ []) ⊎ In h (survivors n v hs) → Survived n v h (g ∷ hs)
    go b l ih (inr y) = survived_tail (ih y)
    go true l ih (inl y) = survived_left n v (v g.transaction) h g hs refl y
    go false l ih (inl y) = let q = Memᴰ.eq_of_singleton y in as_was (Memᴰ.head q) (inl (omega (arith, leb-false g.epoch n l, ap (λ r. r.epoch) q)))

-- and the other way: what stays, and the P that is flagged
keeps : (n : ℕ) (v : ℕ → Verdict) (h g : Held) (hs : List Held) → In h hs
    → ((x : Held) → x ≡ h → In g (if leb x.epoch n then left (v x.transaction) x else x ∷ [])) → In g (survivors n v hs)
unfolding survivors
keeps n v h g (x ∷ hs) (Memᴰ.head e) f = Memᴰ.append_left (survivors n v hs) (f x (sym e))
keeps n v h g (x ∷ hs) (Memᴰ.tail m) f = Memᴰ.append_right (if leb x.epoch n then left (v x.transaction) x else x ∷ []) (keeps n v h g hs m f)
keeps n v h g [] m f = elim m [ ]

pub keeps_stay : (n : ℕ) (v : ℕ → Verdict) (h : Held) (hs : List Held) → In h hs → v h.transaction ≡ stay → In h (survivors n v hs)
unfolding left
keeps_stay n v h hs m e = keeps n v h h hs m (λ x q. rw (q, e) (go (leb h.epoch n)))
  where
    go : (b : Bool) → In h (if b then left stay h else h ∷ [])
    go true = Memᴰ.head refl
    go false = Memᴰ.head refl

pub keeps_flag : (n : ℕ) (v : ℕ → Verdict) (h : Held) (hs : List Held) → In h hs → h.epoch ≤ n → h.kind ≡ P → v h.transaction ≡ flag → In (with_flag h) (survivors n v hs)
unfolding left
keeps_flag n v h hs m l k e = keeps n v h (with_flag h) hs m (λ x q. rw (q, le-leb h.epoch n l, e, k) (Memᴰ.head refl))
