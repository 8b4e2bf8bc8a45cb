-- Saving and loading: load accepts exactly the data that ends with the image of a well-formed account, finds that account, and reads no more of the data. Assumes nothing.
use Prim.Native.Nat.{ℕ, ◌+◌, ◌*◌, ◌-◌, ◌≤◌}
use mathlib.Core.Path.{◌≡◌, refl, sym, ap, ◌∙◌}
use mathlib.Core.Logic.{◌↔◌}
use mathlib.Core.Bool.{Bool, true, false}
use mathlib.Core.List.{List, [], ◌∷◌, ◌++◌, append_assoc}
use native.Mathlib.Omega.{arith}
use lib.ListN.{length, take, length-append, take-append-drop}
use lib.Dec.{leb, eqb}
use borrow.Author.Tests.{eqb-true, eq-eqb, leb-true, le-leb}
use Rattle.wire.specs.Numbers.{number32}
use Rattle.std.specs.Prelude.{if◌then◌else◌, Option, Some, None}
use Rattle.model.specs.Lists.{upward, sum_below}
use Rattle.model.specs.Account.{Record, absent, present, Account, fresh, held_count, account_fits}
use Rattle.model.specs.Accepting.{WellFormed, Accepted}
use Rattle.model.specs.Image.{Present, shown, form, bytes, image, LONGEST_IMAGE}
use Rattle.model.specs.Decoding.{last_of, decode, account, form_fits, same, accepts, load}
use Rattle.model.proofs.Tests.{no_way, and_l, and_r, nth}
use Rattle.model.proofs.Buckets.{upward_none, upward_most}
pub use Rattle.model.proofs.Decode.{decode_bytes}
use Rattle.model.proofs.Decode.{says_length, last_of_law, last_append, length_form}
pub use Rattle.model.proofs.Shows.{form_account}
pub use Rattle.model.proofs.Forms.{form_fits_law, account_form, well_formed}
use Rattle.model.proofs.Forms.{streams_length, held_length}

-- ---- what is accepted

pub same_true : (xs ys : List ℕ) → same xs ys ≡ true → xs ≡ ys
unfolding same
same_true [] [] e = refl
same_true [] (y ∷ ys) e = cc
same_true (x ∷ xs) [] e = cc
same_true (x ∷ xs) (y ∷ ys) e = let p = eqb-true x y (and_l _ _ e) in let q = same_true xs ys (and_r (eqb x y) _ e) in cc

same_refl : (xs : List ℕ) → same xs xs ≡ true
unfolding same
same_refl [] = refl
same_refl (x ∷ xs) = rw (eq-eqb x x refl, same_refl xs)

split_last : (n : ℕ) (l : List ℕ) → l ≡ take (length l - n) l ++ last_of n l
unfolding last_of
split_last n l = sym (take-append-drop (length l - n) l)

accepted : {given : List ℕ} {a : Account} → Accepted given a → load given ≡ Some a
unfolding load accepts image
accepted {given} {a} w =
    let b = bytes (form a) in
    let d : decode given ≡ form a = rw w.ends (decode_bytes w.front (form a)) in
    let l : leb (length b) (length given) ≡ true = le-leb (length b) (length given) (omega (arith, ap length w.ends ∙ length-append w.front b)) in
    let s : last_of (length b) given ≡ b = rw w.ends (last_of_law w.front b _ refl) in
    rw (d, form_fits_law w.well_formed, l, s, same_refl b, account_form w.well_formed)

loaded : {given : List ℕ} {a : Account} → load given ≡ Some a → Accepted given a
unfolding load accepts image
loaded {given} {a} e = go (accepts given) refl e
  where
    go : (b : Bool) → accepts given ≡ b → (if b then Some (account (decode given)) else None) ≡ Some a → Accepted given a
    go false q p = no_way cc
    go true q p =
        let x = decode given in
        let w = and_l (form_fits x) _ q in
        let n = length (bytes x) in
        let s : last_of n given ≡ bytes x = same_true (last_of n given) (bytes x) (and_r (leb n (length given)) _ (and_r (form_fits x) _ q)) in
        let d : account x ≡ a = cc in
        rw (← d) (record { well_formed = well_formed x w; front = take (length given - n) given; ends = split_last n given ∙ rw (s, form_account x w) })

pub loads_exactly : (given : List ℕ) (a : Account) → (load given ≡ Some a) ↔ Accepted given a
loads_exactly given a = (loaded, accepted)

-- at most one account is accepted
pub one_account : {given : List ℕ} {a b : Account} → Accepted given a → Accepted given b → a ≡ b
one_account v w = let p = accepted v in let q = accepted w in cc

-- ---- save, then load; load, then save

pub save_load : {a : Account} → WellFormed a → (front : List ℕ) → load (front ++ image a) ≡ Some a
save_load w front = accepted (record { well_formed = w; front = front; ends = refl })

pub load_save : (given : List ℕ) {a : Account} → load given ≡ Some a → last_of (length (image a)) given ≡ image a
load_save given {a} e = let w = loaded e in rw w.ends (last_of_law w.front (image a) _ refl)

-- ---- as many last bytes as the trailer says are read, and none before them

other_front : (front front' l : List ℕ) (a : Account) → 24 ≤ length l → number32 (last_of 24 l) 16 ≤ length l → load (front ++ l) ≡ Some a → load (front' ++ l) ≡ Some a
unfolding image
other_front front front' l a long whole e =
    let w = loaded e in
    let n = length (image a) in
    let s : number32 (last_of 24 l) 16 ≡ n = rw (← last_append front l 24 long, w.ends) (says_length w.front (form a)) in
    let h : n ≤ length l = omega arith in
    let i : last_of n l ≡ image a = sym (last_append front l n h) ∙ load_save (front ++ l) e in
    accepted (record { well_formed = w.well_formed; front = front' ++ take (length l - n) l; ends = ap (λ m. front' ++ m) (split_last n l ∙ rw i) ∙ sym (append_assoc front' (take (length l - n) l) (image a)) })

pub reads_no_more : (front front' l : List ℕ) → 24 ≤ length l → number32 (last_of 24 l) 16 ≤ length l → load (front ++ l) ≡ load (front' ++ l)
reads_no_more front front' l long whole = go (load (front ++ l)) (load (front' ++ l)) refl refl
  where
    go : (u v : Option Account) → load (front ++ l) ≡ u → load (front' ++ l) ≡ v → u ≡ v
    go (Some a) v p q = cc (other_front front front' l a long whole p)
    go None (Some b) p q = cc (other_front front' front l b long whole q)
    go None None p q = refl

-- ---- lengths

pub image_length_law : (a : Account) → length (image a) ≡ a.fragments * 8 + length (form a).records * 8 + held_count a * 20 + 24
unfolding image
image_length_law a = length_form (form a) ∙ rw (streams_length a, held_length a)

shown_most : (i k : ℕ) (y : Record) → length (shown i k y) ≤ 1
unfolding shown
shown_most i k absent = omega arith
shown_most i k (present v) = omega arith

pub fresh_image : (number k : ℕ) → length (image (fresh number 1 k)) ≡ 32
unfolding fresh held_count sum_below form upward shown
fresh_image number k = image_length_law (fresh number 1 k) ∙ rw (upward_none {X = Present} k 0)

pub longest : {a : Account} → WellFormed a → length (image a) ≤ LONGEST_IMAGE
unfolding form account_fits
longest {a} w =
    let n = nth _ w.fits in
    let k : a.keys ≤ 128 = leb-true a.keys 128 (n 5) in
    let rows = upward_most a.fragments 0 128 (λ i. upward a.keys 0 (λ k. shown i k ((a.at i).records k)))
    (λ i. omega (arith, upward_most a.keys 0 1 (λ k. shown i k ((a.at i).records k)) (λ k. shown_most i k ((a.at i).records k)))) in
    omega (arith, image_length_law a, w.room, leb-true a.fragments 8 (n 3))
