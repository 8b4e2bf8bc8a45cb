-- What a look at a lot says of its view, and of the account that it holds. Assumes nothing.
use Prim.Native.Nat.{ℕ, ◌≤◌}
use mathlib.Core.Path.{◌≡◌, refl, sym, ap, ◌∙◌}
use mathlib.Core.Bool.{Bool, true, false}
use mathlib.Core.List.{List}
use lib.Dec.{eqb}
use borrow.Author.Tests.{leb-true, eqb-true, eq-eqb, ne_eqb}
use Rattle.std.specs.Prelude.{if◌then◌else◌, Ok, Err}
use Rattle.model.specs.Account as model
use Rattle.model.specs.Account.{account_fits, held_count, refused, found}
use Rattle.model.specs.declared.Refusal.{Refusal}
use Rattle.model.specs.declared.Refusal.TheVariants as refusal
use Rattle.model.proofs.Tests.{no_way, nth}
use Rattle.lot.specs.Layout.{head_of, streams_of, places_of}
use Rattle.lot.specs.View.{Lot, free, damaged, holds, view_lot, account_in}
use Rattle.lot.specs.Head.{numbers_of, numbers_with}
use Rattle.lot.specs.Look.{look_as, look_of, Looked, finding}
use Rattle.lot.specs.declared.Account.{Account}
use Rattle.lot.specs.declared.Look.{Look}
use Rattle.lot.specs.declared.Look.TheVariants.{Free, Damaged, Holds}
use Rattle.lot.proofs.Shown.{StreamsShow, PlacesShow, shown_numbers}
use Rattle.lot.proofs.Views.{holds_shown, holds_well_formed, shown_count}

-- the lot holds an account, and m are its numbers
pub record LooksHeld (l : List ℕ) (m : Account) : Type 0 where
  pub account : model.Account
  pub holds_it : view_lot l ≡ holds account
  pub numbers : m ≡ numbers_with (held_count account) account

-- of an account that a lot holds the head has the numbers
pub head_numbers_of : (l : List ℕ) {a : model.Account} → view_lot l ≡ holds a → numbers_of (head_of l) ≡ numbers_with (held_count a) a
head_numbers_of l {a} e = let w = holds_shown l e in shown_numbers w.count a w.head ∙ ap (λ n. numbers_with n a) (sym (shown_count _ w.count a w.places))

module _ (l : List ℕ) where
  pub looked_free : look_of l ≡ Free → view_lot l ≡ free
  unfolding look_of
  looked_free e = go (view_lot l) e
    where
      go : (v : Lot) → look_as (numbers_of (head_of l)) v ≡ Free → v ≡ free
      go free e = refl
      go damaged e = no_way cc
      go (holds a) e = no_way cc

  pub looked_damaged : look_of l ≡ Damaged → view_lot l ≡ damaged
  unfolding look_of
  looked_damaged e = go (view_lot l) e
    where
      go : (v : Lot) → look_as (numbers_of (head_of l)) v ≡ Damaged → v ≡ damaged
      go free e = no_way cc
      go damaged e = refl
      go (holds a) e = no_way cc

  pub looked_held : {m : Account} → look_of l ≡ Holds m → LooksHeld l m
  unfolding look_of
  looked_held {m} e = go (view_lot l) refl e
    where
      go : (v : Lot) → view_lot l ≡ v → look_as (numbers_of (head_of l)) v ≡ Holds m → LooksHeld l m
      go free q e = no_way cc
      go damaged q e = no_way cc
      go (holds a) q e = record { account = a; holds_it = q; numbers = cc (head_numbers_of l q) }

-- ---- the account that is held

-- what the numbers n and the sections of the lot l say of it
pub record Known (l : List ℕ) (n : Account) (a : model.Account) : Type 0 where
  pub numbers_are : n ≡ numbers_with (held_count a) a
  pub few : a.fragments ≤ 8
  pub room : held_count a ≤ 256
  pub streams : StreamsShow (streams_of l) a
  pub places : PlacesShow (places_of l) (held_count a) a

pub known : {l : List ℕ} {n : Account} → Looked l n → (a : model.Account) → view_lot l ≡ holds a → Known l n a
unfolding account_fits
known {l} k a v =
    let w = holds_shown l v in
    let f = holds_well_formed l v in
    let c = shown_count (places_of l) w.count a w.places in
    let h = looked_held l k.seen in
    let same : h.account ≡ a = cc in
    record {
      numbers_are = h.numbers ∙ rw same;
      few = leb-true a.fragments 8 (nth _ f.fits 3);
      room = f.room;
      streams = w.streams;
      places = rw c w.places;
    }

pub held_most : (l : List ℕ) {n : Account} → Looked l n → n.held ≤ 256
held_most l k = let h = looked_held l k.seen in let w = known k h.account h.holds_it in rw w.numbers_are w.room

-- ---- what a call that names an account finds there

module _ (l : List ℕ) (number : ℕ) where
  pub named_damaged : look_of l ≡ Damaged → account_in (view_lot l) number ≡ refused refusal.Damaged
  named_damaged e = rw (looked_damaged l e)

  pub named_free : look_of l ≡ Free → account_in (view_lot l) number ≡ refused refusal.NotThisAccount
  named_free e = rw (looked_free l e)

  module _ {n : Account} (h : LooksHeld l n) where
    number_is : n.number ≡ h.account.number
    number_is = ap (λ x. x.number) h.numbers

    pub named_another : (n.number ≡ number → ⊥) → account_in (view_lot l) number ≡ refused refusal.NotThisAccount
    named_another ne = rw (h.holds_it, ne_eqb h.account.number number (λ e. ne (number_is ∙ e)))

    pub named_own : n.number ≡ number → account_in (view_lot l) number ≡ found h.account
    named_own e = rw (h.holds_it, eq-eqb h.account.number number (sym number_is ∙ e))

  pub finding_refused : {r : Refusal} → finding (look_of l) number ≡ Err r → account_in (view_lot l) number ≡ refused r
  unfolding look_of
  finding_refused {r} e = go (view_lot l) refl e
    where
      other : (n : Account) (a : model.Account) (t : Bool) → (if t then Ok n else Err refusal.NotThisAccount) ≡ Err r → (if t then found a else refused refusal.NotThisAccount) ≡ refused r
      other n a true e = no_way cc
      other n a false e = cc

      go : (v : Lot) → view_lot l ≡ v → finding (look_as (numbers_of (head_of l)) v) number ≡ Err r → account_in v number ≡ refused r
      go free q e = cc
      go damaged q e = cc
      go (holds a) q e = other (numbers_with (held_count a) a) a (eqb a.number number) (rw (head_numbers_of l q) at e)

  module _ {n : Account} (e : finding (look_of l) number ≡ Ok n) where
    pub finding_found : (look_of l ≡ Holds n) × (n.number ≡ number)
    finding_found = go (look_of l) refl e
      where
        mine : (m : Account) (t : Bool) → look_of l ≡ Holds m → eqb m.number number ≡ t → (if t then Ok m else Err refusal.NotThisAccount) ≡ Ok n → (look_of l ≡ Holds n) × (n.number ≡ number)
        mine m true q x e = let s : m ≡ n = cc in (q ∙ ap Holds s, ap (λ k. k.number) (sym s) ∙ eqb-true m.number number x)
        mine m false q x e = no_way cc

        go : (v : Look) → look_of l ≡ v → finding v number ≡ Ok n → (look_of l ≡ Holds n) × (n.number ≡ number)
        go Free q e = no_way cc
        go Damaged q e = no_way cc
        go (Holds m) q e = mine m (eqb m.number number) q refl e

    pub found_held : LooksHeld l n
    found_held = looked_held l finding_found.0

    pub found_named : account_in (view_lot l) number ≡ found found_held.account
    found_named = rw (found_held.holds_it, eq-eqb found_held.account.number number (sym (ap (λ x. x.number) found_held.numbers) ∙ finding_found.1))
