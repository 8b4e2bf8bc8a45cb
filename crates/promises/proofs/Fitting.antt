-- Every answer is in range: its number is at most 17, and its first number at most the longest image's length. So its parts come back from the 64 bits that C gets. Assumes nothing.
use Prim.Native.Nat.{ℕ, suc, ◌+◌, ◌≤◌, ◌<◌}
use mathlib.Core.Path.{◌≡◌, refl, sym, ap, ◌∙◌}
use mathlib.Core.Bool.{Bool, true, false, not, ◌&&◌, ◌||◌, and-false}
use mathlib.Core.List.{List, [], ◌∷◌, map}
use native.Mathlib.Omega.{arith}
use lib.Dec.{leb, ltb, eqb}
use lib.ListN.{length, length-append, length-map}
use lib.Pow.{pow_mono}
use borrow.Author.Tests.{eqb-true, leb-true}
use Rattle.std.specs.Prelude.{if◌then◌else◌, Option, Some, None, Result, Ok, Err}
use Rattle.model.specs.Lists.{filter, any, all, sum_below, count_below, bits_of}
use Rattle.model.specs.Entry.{P, CC, CP}
use Rattle.model.specs.Account.{Held, Account, account_fits, held_count, Named, refused, found}
use Rattle.model.specs.Accepting.{WellFormed}
use Rattle.model.specs.Closing.{missing, LEAST_LIST, judge_close, judge_room, upto, committed, verdict, Verdict, free as freeing, install, flag, stay, installs, flags, pieces, installed, Piece, listed, close_judged, close_of, close_from}
use Rattle.model.specs.Image.{image, LONGEST_IMAGE}
use Rattle.model.specs.Answers.{refusal_numbers, outcome_numbers, opened_numbers, closed_numbers, found_numbers, saved_numbers}
use Rattle.model.specs.declared.Refusal.{Refusal}
use Rattle.model.specs.declared.Refusal.TheVariants.{NoSuchLot, Damaged, NotThisAccount, MarkMissing, TooShort}
use Rattle.model.proofs.Tests.{no_way, and_r, nth, any_out, all_in}
use Rattle.model.proofs.Sums.{sum_most}
use Rattle.model.proofs.Buckets.{length_upward}
use Rattle.model.proofs.Image.{longest}
use Rattle.epoch.proofs.Bits.{bits_lt}
use Rattle.lot.specs.View.{Lot, free, damaged, holds, account_in}
use Rattle.lot.proofs.Views.{holds_well_formed}
use Rattle.lots.specs.Memory.{MOST_LOTS, memory_fits, lot_fits, lot_of, view_of, named}
use Rattle.standby.specs.Closing.{close_answer}
use Rattle.standby.specs.Images.{save_from, save_answer}
use Rattle.service.proofs.Packing.{number_back, first_back, second_back}
use Rattle.promises.specs.Runs.{Call, start, open_account, deliver, close_epoch, read_record, save_account, load_account, drop_account, overview, Reply, reply_numbers, Step, starts, opens, delivers, closes, reads, saves, loads, drops, overviews}
use Rattle.promises.specs.Answers.{order, InRange, ComesBack}
use Rattle.promises.proofs.Answers.{known_answers, others_zero}
use Rattle.promises.proofs.Placing.{Placed, opened_placed, loaded_placed}

-- ---- a close installs no more pieces than entries are held: each has a CC, CP or P of its own

module _ {X : Type 0} (p q : X → Bool) (apart : (x : X) → p x ≡ true → q x ≡ false) where
  two_sorts : (xs : List X) → length (filter p xs) + length (filter q xs) ≤ length xs
  unfolding filter
  two_sorts [] = omega arith
  two_sorts (x ∷ xs) = go (p x) (q x) refl refl (two_sorts xs)
    where
      go : (a b : Bool) → p x ≡ a → q x ≡ b → length (filter p xs) + length (filter q xs) ≤ length xs → length (if a then x ∷ filter p xs else filter p xs) + length (if b then x ∷ filter q xs else filter q xs) ≤ suc (length xs)
      go true true u v l = no_way (sym (apart x u) ∙ v)
      go true false u v l = omega arith
      go false true u v l = omega arith
      go false false u v l = omega arith

-- a verdict that installs does not flag
not_both : (a b : Bool) (u : Verdict) → (a && installs u) ≡ true → (b && flags u) ≡ false
not_both a b freeing e = no_way (and_r a false e)
not_both a b install e = and-false b
not_both a b flag e = no_way (and_r a false e)
not_both a b stay e = no_way (and_r a false e)

pieces_few : (v : ℕ → Verdict) (es : List Held) → length (pieces v es) ≤ length es
unfolding pieces
pieces_few v es =
    omega (
      arith,
      length-append (map (λ h. h.transaction) (filter committing es)) (map (λ h. h.transaction) (filter flagging es)),
      length-map (filter committing es) (λ h. h.transaction),
      length-map (filter flagging es) (λ h. h.transaction),
      two_sorts committing flagging (λ h e. not_both (eqb h.kind CC || eqb h.kind CP) (eqb h.kind P) (v h.transaction) e) es,
    )
  where
    committing : Held → Bool
    committing h = (eqb h.kind CC || eqb h.kind CP) && installs (v h.transaction)

    flagging : Held → Bool
    flagging h = eqb h.kind P && flags (v h.transaction)

installed_few : (a : Account) (i : ℕ) → length (installed a i) ≤ length (a.at i).held
unfolding installed upto
installed_few a i =
    let n = suc a.closed in
    let es = upto n (a.at i).held in
    omega (arith, pieces_few (verdict (committed n (λ c. (a.at c).held)) es) es, two_sorts (λ h. leb h.epoch n) (λ h. false) (λ h e. refl) (a.at i).held)

pub pieces_held : (a : Account) → length (listed a) ≤ held_count a
unfolding listed held_count sum_below
pieces_held a =
    let f = a.fragments in
    let piece : ℕ → ℕ → Piece = λ i t. record { fragment = i; transaction = t } in
    let own : ℕ → List Piece = λ i. map (piece i) (installed a i) in
    let z : 0 + f ≡ f = omega arith in
    omega (
      arith,
      rw z at (length_upward f 0 own),
      sum_most (λ i. length (a.at i).held) (λ i. length (own i)) f (λ i l. omega (arith, length-map (installed a i) (piece i), installed_few a i)),
    )

-- ---- the first number of a call that names a lot and an account; `g` is that number, by what the call finds

module _ (m : List ℕ) (lots lot number : ℕ) (g : Named → ℕ) (plain : (r : Refusal) → g (refused r) ≡ (refusal_numbers r).first) where
  of_named : ((a : Account) → WellFormed a → g (found a) ≤ LONGEST_IMAGE) → g (named m lots lot number) ≤ LONGEST_IMAGE
  unfolding named view_of
  of_named of-found = go (lot_fits lots lot m) (view_of m lot) refl
    where
      mine : (a : Account) → view_of m lot ≡ holds a → (b : Bool) → g (if b then found a else refused NotThisAccount) ≤ LONGEST_IMAGE
      mine a q true = of-found a (holds_well_formed (lot_of m lot) q)
      mine a q false = omega (arith, plain NotThisAccount)

      go : (t : Bool) (v : Lot) → view_of m lot ≡ v → g (if not t then refused NoSuchLot else account_in v number) ≤ LONGEST_IMAGE
      go false v q = omega (arith, plain NoSuchLot)
      go true free q = omega (arith, plain NotThisAccount)
      go true damaged q = omega (arith, plain Damaged)
      go true (holds a) q = mine a q (eqb a.number number)

of_close : (room : ℕ) (a : Account) → WellFormed a → (closed_numbers (close_of a room)).first ≤ LONGEST_IMAGE
unfolding judge_room judge_close account_fits
of_close room a ok = go (ltb room LEAST_LIST) (eqb (count_below (missing a) a.fragments) 0)
  where
    go : (short all : Bool) → (closed_numbers (close_judged (if short then Err TooShort else (if all then Ok tt else Err (MarkMissing (bits_of (missing a) a.fragments) (count_below (missing a) a.fragments)))) (length (listed a)))).first ≤ LONGEST_IMAGE
    go true all = omega arith
    go false true = omega (arith, pieces_held a, ok.room)
    go false false = omega (arith, bits_lt (missing a) a.fragments, pow_mono (leb-true a.fragments 8 (nth _ ok.fits 3)))

of_save : (room : ℕ) (a : Account) → WellFormed a → (saved_numbers (save_from (found a) room)).first ≤ LONGEST_IMAGE
of_save room a ok = go (ltb room LONGEST_IMAGE)
  where
    go : (short : Bool) → (saved_numbers (if short then Err TooShort else Ok (length (image a)))).first ≤ LONGEST_IMAGE
    go true = omega arith
    go false = longest ok

-- ---- .. and of the others, which are never answered 12

of_outcome : (r : Result (Unit {0}) Refusal) → eqb (outcome_numbers r).number 12 ≡ false → (outcome_numbers r).first ≤ LONGEST_IMAGE
of_outcome (Ok _) e = omega arith
of_outcome (Err s) e = omega (arith, (others_zero s e).0)

of_read : (r : Result (Option ℕ) Refusal) → eqb (found_numbers r).number 12 ≡ false → (found_numbers r).first ≤ LONGEST_IMAGE
of_read (Ok (Some value)) e = omega arith
of_read (Ok None) e = omega arith
of_read (Err s) e = omega (arith, (others_zero s e).0)

of_opening : (r : Result ℕ Refusal) → ((i : ℕ) → Ok i ≡ r → i < MOST_LOTS) → eqb (opened_numbers r).number 12 ≡ false → (opened_numbers r).first ≤ LONGEST_IMAGE
of_opening (Ok i) below e = omega (arith, below i refl)
of_opening (Err s) below e = omega (arith, (others_zero s e).0)

lot_below : {m : List ℕ} {lots number i : ℕ} → Placed m lots number i → i < MOST_LOTS
unfolding memory_fits
lot_below {lots = lots} w = omega (arith, w.there, leb-true lots MOST_LOTS (nth _ w.fits 1))

not_twelve : {m m' : List ℕ} {c : Call} {r : Reply} → Step m c r m' → any (eqb 12) (0 ∷ order c) ≡ false → eqb (reply_numbers r).number 12 ≡ false
not_twelve {c = c} {r = r} w never = go (eqb (reply_numbers r).number 12) refl
  where
    go : (b : Bool) → eqb (reply_numbers r).number 12 ≡ b → b ≡ false
    go true e = no_way (sym never ∙ ap (λ n. any (eqb n) (0 ∷ order c)) (sym (eqb-true (reply_numbers r).number 12 e)) ∙ (known_answers w).listed)
    go false e = refl

first_most : {m m' : List ℕ} {c : Call} {r : Reply} → Step m c r m' → (reply_numbers r).first ≤ LONGEST_IMAGE
unfolding any close_answer save_answer
first_most (starts {r = r} w) = of_outcome r (not_twelve (starts w) refl)
first_most {m} (opens {lots = lots} {number} {f} {k} {r} w) = of_opening r (λ i e. lot_below (opened_placed m lots number f k (e ∙ w.answer)).0) (not_twelve (opens w) refl)
first_most (delivers {r = r} w) = of_outcome r (not_twelve (delivers w) refl)
first_most {m} (closes {lots = lots} {lot} {number} {list} w) = rw w.answer (of_named m lots lot number (λ x. (closed_numbers (close_from x (length list))).first) (λ r. refl) (of_close (length list)))
first_most (reads {r = r} w) = of_read r (not_twelve (reads w) refl)
first_most {m} (saves {lots = lots} {lot} {number} {buffer} w) = rw w.answer (of_named m lots lot number (λ x. (saved_numbers (save_from x (length buffer))).first) (λ r. refl) (of_save (length buffer)))
first_most {m} (loads {lots = lots} {given} {r} w) = of_opening r (λ i e. lot_below (loaded_placed m lots given (e ∙ w.answer)).place) (not_twelve (loads w) refl)
first_most (drops {r = r} w) = of_outcome r (not_twelve (drops w) refl)
first_most (overviews {r = r} w) = of_outcome r (not_twelve (overviews w) refl)

-- ---- the number

orders_most : (c : Call) → all (λ n. leb n 17) (0 ∷ order c) ≡ true
unfolding all
orders_most (start lots) = refl
orders_most (open_account lots number f k) = refl
orders_most (deliver lots lot number entry) = refl
orders_most (close_epoch lots lot number list) = refl
orders_most (read_record lots lot number fragment key) = refl
orders_most (save_account lots lot number buffer) = refl
orders_most (load_account lots given) = refl
orders_most (drop_account lots lot number) = refl
orders_most (overview lots rows) = refl

number_most : {m m' : List ℕ} {c : Call} {r : Reply} → Step m c r m' → (reply_numbers r).number ≤ 17
number_most {c = c} {r = r} w =
    let n = (reply_numbers r).number in
    let x = any_out (eqb n) (0 ∷ order c) (known_answers w).listed in
    leb-true n 17 (ap (λ y. leb y 17) (eqb-true n x.0 x.2) ∙ all_in (λ y. leb y 17) (orders_most c) x.1)

pub answers_fit : {m m' : List ℕ} {c : Call} {r : Reply} → Step m c r m' → InRange (reply_numbers r)
answers_fit w = record { number_most = number_most w; first_most = first_most w }

pub numbers_come_back : {m m' : List ℕ} {c : Call} {r : Reply} → Step m c r m' → ComesBack (reply_numbers r)
numbers_come_back {r = r} w =
    let n = reply_numbers r in
    let number_fits : n.number < 256 = omega (arith, number_most w) in
    let first_fits : n.first < 16777216 = omega (arith, first_most w) in
    record { number_part = number_back n number_fits first_fits; first_part = first_back n number_fits first_fits; second_part = second_back n number_fits first_fits }
