-- A stream's entries in their epochs: what each is, how a first part of the stream lies in the whole, and where a mark cuts it. Assumes nothing.
use Prim.Native.Nat.{ℕ, suc, ◌+◌, ◌≤◌, ◌<◌}
use mathlib.Core.Path.{◌≡◌, refl, ap}
use mathlib.Core.Logic.{◌⊎◌, inl, inr}
use mathlib.Core.Bool.{Bool, true, false}
use mathlib.Core.List.{List, [], ◌∷◌, ◌++◌}
use native.Mathlib.Omega.{arith}
use native.Mathlib.Decide.{ℕ_discrete}
use lib.ListN.{length}
use borrow.Author.Tests.{eqb-false}
use Rattle.std.specs.Prelude.{if◌then◌else◌}
use Rattle.model.specs.Entry.{is_mark, MARK}
use Rattle.model.specs.Account.{Held}
use Rattle.model.specs.Taking.{hold}
use Rattle.model.specs.Rules.{in_epochs, At, here, there}
use Rattle.model.specs.declared.Entry.{Entry}

-- the epoch that is open after the entries es, where n was open before them
unfoldable pub epoch_after : ℕ → List Entry → ℕ
epoch_after n [] = n
epoch_after n (e ∷ es) = epoch_after (if is_mark e then suc n else n) es

pub epochs_rise : (n : ℕ) (es : List Entry) → n ≤ epoch_after n es
unfolding epoch_after
epochs_rise n [] = omega arith
epochs_rise n (e ∷ es) = go (is_mark e) (epochs_rise (if is_mark e then suc n else n) es)
  where
    go : (b : Bool) → (if b then suc n else n) ≤ epoch_after (if b then suc n else n) es → n ≤ epoch_after (if b then suc n else n) es
    go true ih = omega arith
    go false ih = ih

pub in_epochs_append : (n : ℕ) (xs ys : List Entry) → in_epochs n (xs ++ ys) ≡ in_epochs n xs ++ in_epochs (epoch_after n xs) ys
unfolding in_epochs epoch_after
in_epochs_append n [] ys = refl
in_epochs_append n (x ∷ xs) ys = go (is_mark x) (λ m. in_epochs_append m xs ys)
  where
    go : (b : Bool) → ((m : ℕ) → in_epochs m (xs ++ ys) ≡ in_epochs m xs ++ in_epochs (epoch_after m xs) ys)
        → (if b then in_epochs (suc n) (xs ++ ys) else hold x n ∷ in_epochs n (xs ++ ys))
        ≡ (if b then in_epochs (suc n) xs else hold x n ∷ in_epochs n xs) ++ in_epochs (epoch_after (if b then suc n else n) xs) ys
    go true ih = ih (suc n)
    go false ih = ap (λ l. hold x n ∷ l) (ih n)

-- ---- each entry

-- one of a stream that began at epoch n
pub record InStream (n : ℕ) (h : Held) : Type 0 where
  pub unflagged : h.flagged ≡ false
  pub from : n ≤ h.epoch
  pub no_mark : h.kind ≡ MARK → ⊥

pub in_stream : (n : ℕ) {h : Held} {p : ℕ} (es : List Entry) → At h (in_epochs n es) p → InStream n h
unfolding in_epochs hold
in_stream n [] x = elim x [ ]
in_stream n {h} {p} (e ∷ es) x = go (is_mark e) refl x (λ m q. in_stream m {p = q} es)
  where
    go : {p : ℕ} (b : Bool) → is_mark e ≡ b → At h (if b then in_epochs (suc n) es else hold e n ∷ in_epochs n es) p → ((m q : ℕ) → At h (in_epochs m es) q → InStream m h) → InStream n h
    go {p} true q y ih = let r = ih (suc n) p y in record { unflagged = r.unflagged; from = omega (arith, r.from); no_mark = r.no_mark }
    go false q (here w) ih = rw w (record { unflagged = refl; from = omega arith; no_mark = eqb-false e.kind MARK q })
    go false q (there {p = p} y) ih = ih n p y

-- epochs do not fall
pub rising : (n : ℕ) {h g : Held} {p q : ℕ} (es : List Entry) → At h (in_epochs n es) p → At g (in_epochs n es) q → p ≤ q → h.epoch ≤ g.epoch
unfolding in_epochs hold
rising n [] x y l = elim x [ ]
rising n {h} {g} {p} {q} (e ∷ es) x y l = go (is_mark e) x y l (λ m a b. rising m {p = a} {q = b} es)
  where
    go : {p q : ℕ} (b : Bool) → At h (if b then in_epochs (suc n) es else hold e n ∷ in_epochs n es) p → At g (if b then in_epochs (suc n) es else hold e n ∷ in_epochs n es) q → p ≤ q
        → ((m a b : ℕ) → At h (in_epochs m es) a → At g (in_epochs m es) b → a ≤ b → h.epoch ≤ g.epoch) → h.epoch ≤ g.epoch
    go {p} {q} true x y l ih = ih (suc n) p q x y l
    go false (here w) (here v) l ih = rw (w, v) (omega arith)
    go false (here w) (there y) l ih = rw w (in_stream n es y).from
    go false (there {p = a} x) (there {p = b} y) l ih = ih n a b x y (omega arith)
    go false (there x) (here v) l ih = absurd (omega arith)

-- ---- a first part

pub at_below : {h : Held} {p : ℕ} {xs : List Held} → At h xs p → p < length xs
at_below (here e) = omega arith
at_below (there a) = omega (arith, at_below a)

pub at_first : {h : Held} {p : ℕ} {xs : List Held} (ys : List Held) → At h xs p → At h (xs ++ ys) p
at_first ys (here e) = here e
at_first ys (there a) = there (at_first ys a)

pub at_second : {h : Held} {p : ℕ} {ys : List Held} (xs : List Held) → At h ys p → At h (xs ++ ys) (length xs + p)
at_second {p = p} [] a = let z : 0 + p ≡ p = omega arith in rw z a
at_second {h} {p} {ys} (x ∷ xs) a = let z : suc (length xs) + p ≡ suc (length xs + p) = omega arith in rw z (there (at_second xs a))

pub at_either : {h : Held} {p : ℕ} (xs ys : List Held) → At h (xs ++ ys) p → (At h xs p) ⊎ ((q : ℕ) × At h ys q)
at_either {h} {p} [] ys a = inr (p, a)
at_either (x ∷ xs) ys (here e) = inl (here e)
at_either {h} (x ∷ xs) ys (there {p = p} a) = go (at_either xs ys a)
  where
    go : (At h xs p) ⊎ ((q : ℕ) × At h ys q) → (At h (x ∷ xs) (suc p)) ⊎ ((q : ℕ) × At h ys q)
    go (inl b) = inl (there b)
    go (inr b) = inr b

module _ (n : ℕ) (xs ys : List Entry) where
  pub at_whole : {h : Held} {p : ℕ} → At h (in_epochs n xs) p → At h (in_epochs n (xs ++ ys)) p
  at_whole a = rw (in_epochs_append n xs ys) (at_first (in_epochs (epoch_after n xs) ys) a)

  -- what stands before the epoch in which the first part ends stands in it
  pub at_part : {h : Held} {p : ℕ} → At h (in_epochs n (xs ++ ys)) p → h.epoch < epoch_after n xs → At h (in_epochs n xs) p
  at_part {h} {p} a l = go (at_either (in_epochs n xs) (in_epochs (epoch_after n xs) ys) (rw (in_epochs_append n xs ys) at a))
    where
      go : (At h (in_epochs n xs) p) ⊎ ((q : ℕ) × At h (in_epochs (epoch_after n xs) ys) q) → At h (in_epochs n xs) p
      go (inl b) = b
      go (inr (q, b)) = absurd (omega (arith, (in_stream (epoch_after n xs) ys b).from))

-- ---- the part up to mark m

pub record Cut (n m : ℕ) (es : List Entry) : Type 0 where
  pub first : List Entry
  pub rest : List Entry
  pub splits : es ≡ first ++ rest
  pub ends : epoch_after n first ≡ suc m
  pub before : {h : Held} {p : ℕ} → At h (in_epochs n first) p → h.epoch ≤ m

no_entry : (n : ℕ) {X : Type 0} {h : Held} {p : ℕ} → At h (in_epochs n []) p → X
unfolding in_epochs
no_entry n x = absurd (omega (arith, at_below x))

pub cut : (n m : ℕ) (es : List Entry) → n ≤ suc m → m < epoch_after n es → Cut n m es
unfolding epoch_after in_epochs hold
cut n m [] l k = record { first = []; rest = []; splits = refl; ends = omega arith; before = λ x. no_entry n x }
cut n m (e ∷ es) l k = here? (ℕ_discrete n (suc m)) (λ j. cut (if is_mark e then suc n else n) m es j k)
  where
    within : (b : Bool) → (n ≡ suc m → ⊥) → (if b then suc n else n) ≤ suc m
    within true d = omega arith
    within false d = omega arith

    earlier : (b : Bool) (fs : List Entry) → (n ≡ suc m → ⊥) → ((h : Held) (p : ℕ) → At h (in_epochs (if b then suc n else n) fs) p → h.epoch ≤ m)
        → {h : Held} {p : ℕ} → At h (if b then in_epochs (suc n) fs else hold e n ∷ in_epochs n fs) p → h.epoch ≤ m
    earlier true fs d ih {h} {p} x = ih h p x
    earlier false fs d ih (here w) = let z : n ≤ m = omega arith in rw w z
    earlier false fs d ih {h} (there {p = p} x) = ih h p x

    here? : Dec (n ≡ suc m) → ((if is_mark e then suc n else n) ≤ suc m → Cut (if is_mark e then suc n else n) m es) → Cut n m (e ∷ es)
    here? (yes q) ih = record { first = []; rest = e ∷ es; splits = refl; ends = q; before = λ x. no_entry n x }
    here? (no d) ih =
        let c = ih (within (is_mark e) d) in
        record { first = e ∷ c.first; rest = c.rest; splits = ap (λ l. e ∷ l) c.splits; ends = c.ends; before = earlier (is_mark e) c.first d (λ h p. c.before) }
