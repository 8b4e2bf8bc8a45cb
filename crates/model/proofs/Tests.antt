-- Laws of tests on Bools and lists. Assumes nothing.
use Prim.Native.Nat.{ℕ, zero, suc}
use mathlib.Core.Path.{◌≡◌, refl, sym, ◌∙◌, fun_ext}
use mathlib.Core.Logic.{◌⊎◌, inl, inr, ⊎_elim}
use mathlib.Core.Bool.{Bool, true, false, not, ◌&&◌, ◌||◌, and-true, and_assoc, or_assoc, or-true}
use mathlib.Core.List.Memᴰ
use mathlib.Core.List.{List, [], ◌∷◌, ◌++◌, Memᴰ}
use native.Mathlib.Omega.{arith}
use lib.ListN.{get_or}
use Rattle.std.specs.Prelude.{if◌then◌else◌}
use Rattle.model.specs.Lists.{filter, any, all, every}

-- ---- Bools

pub no_way : {X : Type 0} → false ≡ true → X
no_way e = absurd (let z : ◌≡◌ {A = ℕ} 0 1 = cc in omega arith)

pub and_l : (a b : Bool) → (a && b) ≡ true → a ≡ true
and_l true b e = refl
and_l false b e = e

pub and_r : (a b : Bool) → (a && b) ≡ true → b ≡ true
and_r true b e = e
and_r false b e = no_way e

pub and : {a b : Bool} → a ≡ true → b ≡ true → (a && b) ≡ true
and p q = rw (p, q)

pub either : (a b : Bool) → (a || b) ≡ true → (a ≡ true) ⊎ (b ≡ true)
either true b e = inl refl
either false b e = inr e

pub by_cases : (b : Bool) → (b ≡ true) ⊎ (b ≡ false)
by_cases true = inl refl
by_cases false = inr refl

pub not_is : (b : Bool) → not b ≡ true → b ≡ false
not_is true e = no_way e
not_is false e = refl

pub if_ap : {X Y : Type 0} (f : X → Y) (b : Bool) (x y : X) → f (if b then x else y) ≡ (if b then f x else f y)
if_ap f true x y = refl
if_ap f false x y = refl

-- ---- a list of conditions

-- condition i, from 0
pub nth : (bs : List Bool) → every bs ≡ true → (i : ℕ) → get_or bs i true ≡ true
unfolding every
nth [] e i = refl
nth (b ∷ bs) e zero = and_l b _ e
nth (b ∷ bs) e (suc i) = nth bs (and_r b _ e) i

pub nth_fails : (bs : List Bool) (i : ℕ) → get_or bs i true ≡ false → every bs ≡ false
unfolding every
nth_fails [] i e = e
nth_fails (b ∷ bs) zero e = rw e
nth_fails (b ∷ bs) (suc i) e = rw (nth_fails bs i e) (and_no b)
  where
    and_no : (b : Bool) → (b && false) ≡ false
    and_no true = refl
    and_no false = refl

-- ---- lists

module _ {X : Type 0} where
  pub any_append : (p : X → Bool) (xs ys : List X) → any p (xs ++ ys) ≡ (any p xs || any p ys)
  unfolding any
  any_append p [] ys = refl
  any_append p (x ∷ xs) ys = rw (any_append p xs ys) (sym (or_assoc (p x) (any p xs) (any p ys)))

  pub filter_append : (p : X → Bool) (xs ys : List X) → filter p (xs ++ ys) ≡ filter p xs ++ filter p ys
  unfolding filter
  filter_append p [] ys = refl
  filter_append p (x ∷ xs) ys = rw (filter_append p xs ys) (sym (if_ap (λ r. r ++ filter p ys) (p x) (x ∷ filter p xs) (filter p xs)))

  any_step : (p : X → Bool) (b : Bool) (x : X) (xs : List X) → any p (if b then x ∷ xs else xs) ≡ (b && p x || any p xs)
  unfolding any
  any_step p true x xs = refl
  any_step p false x xs = refl

  pub any_filter : (p q : X → Bool) (xs : List X) → any p (filter q xs) ≡ any (λ x. q x && p x) xs
  unfolding any filter
  any_filter p q [] = refl
  any_filter p q (x ∷ xs) = any_step p (q x) x (filter q xs) ∙ rw (any_filter p q xs)

  pub any_cong : (p q : X → Bool) (xs : List X) → ((x : X) → p x ≡ q x) → any p xs ≡ any q xs
  any_cong p q xs e = rw (fun_ext e)

  -- a test that passes somewhere, and one that passes nowhere
  pub any_in : (p : X → Bool) {x : X} {xs : List X} → Memᴰ x xs → p x ≡ true → any p xs ≡ true
  unfolding any
  any_in p (Memᴰ.head {x = y} e) t = rw (← e, t)
  any_in p (Memᴰ.tail {x = y} m) t = rw (any_in p m t) (or-true (p y))

  pub any_out : (p : X → Bool) (xs : List X) → any p xs ≡ true → (x : X) × Memᴰ x xs × (p x ≡ true)
  unfolding any
  any_out p [] t = no_way t
  any_out p (x ∷ xs) t = go (p x) refl t (any_out p xs)
    where
      go : (b : Bool) → p x ≡ b → (b || any p xs) ≡ true → (any p xs ≡ true → (y : X) × Memᴰ y xs × (p y ≡ true)) → (y : X) × Memᴰ y (x ∷ xs) × (p y ≡ true)
      go true e u ih = (x, Memᴰ.head refl, e)
      go false e u ih = let r = ih u in (r.0, Memᴰ.tail r.1, r.2)

  pub any_none : (p : X → Bool) (xs : List X) → ((x : X) → Memᴰ x xs → p x ≡ true → ⊥) → any p xs ≡ false
  any_none p xs n = go (any p xs) refl
    where
      go : (b : Bool) → any p xs ≡ b → any p xs ≡ false
      go true e = let r = any_out p xs e in absurd (n r.0 r.1 r.2)
      go false e = e

  pub all_append : (p : X → Bool) (xs ys : List X) → all p (xs ++ ys) ≡ (all p xs && all p ys)
  unfolding all
  all_append p [] ys = refl
  all_append p (x ∷ xs) ys = rw (all_append p xs ys) (sym (and_assoc (p x) (all p xs) (all p ys)))

  pub all_snoc : (p : X → Bool) (xs : List X) (x : X) → all p (xs ++ x ∷ []) ≡ (all p xs && p x)
  unfolding all
  all_snoc p xs x = all_append p xs (x ∷ []) ∙ rw (and-true (p x))

  pub all_in : (p : X → Bool) {x : X} {xs : List X} → all p xs ≡ true → Memᴰ x xs → p x ≡ true
  unfolding all
  all_in p a (Memᴰ.head {x = y} e) = rw e (and_l (p y) _ a)
  all_in p a (Memᴰ.tail {x = y} m) = all_in p (and_r (p y) _ a) m

  pub filter_in : (p : X → Bool) {x : X} {xs : List X} → Memᴰ x xs → p x ≡ true → Memᴰ x (filter p xs)
  unfolding filter
  filter_in p (Memᴰ.head e) t = rw (← e, t) (Memᴰ.head refl)
  filter_in p {x} (Memᴰ.tail {x = y} {xs = xs} m) t = go (p y) (filter_in p m t)
    where
      go : (b : Bool) → Memᴰ x (filter p xs) → Memᴰ x (if b then y ∷ filter p xs else filter p xs)
      go true r = Memᴰ.tail r
      go false r = r

  pub in_filter : (p : X → Bool) {x : X} (xs : List X) → Memᴰ x (filter p xs) → Memᴰ x xs × (p x ≡ true)
  unfolding filter
  in_filter p [] m = absurd (Memᴰ.not-nil m)
  in_filter p {x} (y ∷ ys) m = go (p y) refl m (in_filter p ys)
    where
      go : (b : Bool) → p y ≡ b → Memᴰ x (if b then y ∷ filter p ys else filter p ys) → (Memᴰ x (filter p ys) → Memᴰ x ys × (p x ≡ true)) → Memᴰ x (y ∷ ys) × (p x ≡ true)
      go true e m ih = ⊎_elim (λ z. (Memᴰ.head z, rw z e)) (λ z. let r = ih z in (Memᴰ.tail r.0, r.1)) (Memᴰ.cases_cons m)
      go false e m ih = let r = ih m in (Memᴰ.tail r.0, r.1)

  pub filter_filter : (p q : X → Bool) (xs : List X) → filter p (filter q xs) ≡ filter (λ x. q x && p x) xs
  unfolding filter
  filter_filter p q [] = refl
  filter_filter p q (x ∷ xs) = go (q x) (filter_filter p q xs)
    where
      go : (b : Bool) → filter p (filter q xs) ≡ filter (λ x. q x && p x) xs → filter p (if b then x ∷ filter q xs else filter q xs) ≡ (if b && p x then x ∷ filter (λ x. q x && p x) xs else filter (λ x. q x && p x) xs)
      go true ih = rw ih
      go false ih = ih

pub every_append : (xs ys : List Bool) → every (xs ++ ys) ≡ (every xs && every ys)
unfolding every
every_append [] ys = refl
every_append (x ∷ xs) ys = rw (every_append xs ys) (sym (and_assoc x (every xs) (every ys)))

pub all_weaken : {X : Type 0} (p q : X → Bool) → ((x : X) → p x ≡ true → q x ≡ true) → (xs : List X) → all p xs ≡ true → all q xs ≡ true
unfolding all
all_weaken p q f [] a = a
all_weaken p q f (x ∷ xs) a = and (f x (and_l (p x) _ a)) (all_weaken p q f xs (and_r (p x) _ a))
