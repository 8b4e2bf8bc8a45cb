-- What each return of a call answers and leaves is what the call owes. Assumes nothing.
use Prim.Native.Nat.{ℕ, ◌+◌, ◌*◌, ◌<◌, ◌≤◌, ◌^◌}
use mathlib.Core.Path.{◌≡◌, refl, sym, ap, ◌∙◌}
use mathlib.Core.Bool.{Bool, true, false, not, ◌&&◌, ◌||◌}
use mathlib.Core.List.{List}
use native.Mathlib.Omega.{arith}
use native.Mathlib.Decide.{dec_lt}
use lib.Dec.{ltb}
use lib.ListN.{length}
use borrow.Author.Tests.{leb-true, ltb-true, lt-ltb, le-ltb}
use Rattle.std.specs.Prelude.{if◌then◌else◌, Some, None, Result, Ok, Err, ok_or}
use Rattle.model.specs.Account.{account_fits, MOST_FRAGMENTS, MOST_KEYS}
use Rattle.model.specs.declared.Refusal.{Refusal}
use Rattle.model.specs.declared.Refusal.TheVariants.{NoSuchLot, Damaged, NotThisAccount, OutsideAccount, AlreadyOpen, NoFreeLot, UnfitAccount}
use Rattle.model.proofs.Tests.{no_way, and_l, and_r, nth}
use Rattle.lot.specs.Layout.{SIZE, records_of}
use Rattle.lot.specs.View.{Lot, free, damaged, holds, view_lot, record_at}
use Rattle.lot.specs.Writing.{found_of}
use Rattle.lot.specs.declared.Account as numbers
use Rattle.lot.specs.declared.Look.{Look}
use Rattle.lot.proofs.Views.{holds_shown}
use Rattle.lots.specs.Memory.{memory_fits, lot_fits, lot_of, view_of, Becomes, named, is_free, is_damaged, is_of, some_below, lowest_below, Lowest}
use Rattle.lots.specs.Looks.{look_from, looks_damaged, looks_of, finding_of, survey_of, place_in}
use Rattle.standby.specs.Calls.{start_answer, AllFree, Started, place_for, open_answer, read_answer, drop_from, drop_answer, Dropped}
use Rattle.lots.proofs.Parts.{memory_long, lot_inside, others_stay}
use Rattle.lots.proofs.Lowest.{lowest}
use Rattle.lots.proofs.Named.{finding_refused, finding_found, FoundHere, held_fits_law}

-- ---- start

module _ (m : List ℕ) (lots : ℕ) where
  pub not_started : memory_fits lots m ≡ false → Started m m lots (Err NoSuchLot)
  unfolding start_answer
  not_started e = record { answer = rw e; freed = refl }

  pub is_started : {m' : List ℕ} → memory_fits lots m ≡ true → AllFree lots m m' → Started m m' lots (Ok tt)
  unfolding start_answer
  is_started e w = record { answer = rw e; freed = w }

pub none_yet : (m : List ℕ) → AllFree 0 m m
none_yet m = record { long = refl; each = λ i h. absurd (omega arith) }

pub one_freed : {m m₁ m₂ : List ℕ} (i : ℕ) → AllFree i m m₁ → Becomes i m₁ m₂ free → AllFree (i + 1) m m₂
unfolding view_of
one_freed {m} {m₁} {m₂} i w b = record { long = b.0.long ∙ w.long; each = λ j h. go j h (dec_lt j i) }
  where
    go : (j : ℕ) → j < i + 1 → Dec (j < i) → view_of m₂ j ≡ free
    go j h (yes l) = ap view_lot (others_stay b.0 j (λ e. omega arith)) ∙ w.each j l
    go j h (no l) = let e : j ≡ i = omega arith in rw e b.1

-- ---- the lot of a call that opens an account

module _ (m : List ℕ) (lots : ℕ) where
  pub record Placing (i : ℕ) : Type 0 where
    pub lowest_free : Lowest (λ j. is_free (view_of m j)) lots i
    pub inside : i * SIZE + SIZE ≤ length m

  pub placing : (number : ℕ) {i : ℕ} → memory_fits lots m ≡ true → place_for m lots number ≡ Ok i → Placing i
  unfolding place_for
  placing number {i} there e = go (some_below (λ j. is_of number (view_of m j)) lots) (some_below (λ j. is_free (view_of m j)) lots) refl e
    where
      low : ℕ
      low = lowest_below (λ j. is_free (view_of m j)) lots

      go : (d s : Bool) → some_below (λ j. is_free (view_of m j)) lots ≡ s → (if d then Err AlreadyOpen else if s then Ok low else Err NoFreeLot) ≡ Ok i → Placing i
      go true s z e = no_way cc
      go false false z e = no_way cc
      go false true z e =
          let s : low ≡ i = cc in
          let w = lowest (λ j. is_free (view_of m j)) lots z in
          rw (← s) (record { lowest_free = w; inside = omega (arith, memory_long lots m there, w.below) })

  -- what a survey of all lots answers
  pub placed : (number : ℕ) → place_in (survey_of m (Some number) lots) ≡ place_for m lots number
  unfolding survey_of place_for
  placed number = go (some_below (λ j. is_of number (view_of m j)) lots) (some_below (λ j. is_free (view_of m j)) lots)
    where
      low : ℕ
      low = lowest_below (λ j. is_free (view_of m j)) lots

      go : (d s : Bool) → (if d then Err AlreadyOpen else ok_or (if s then Some low else None) NoFreeLot) ≡ (if d then Err AlreadyOpen else if s then Ok low else Err NoFreeLot)
      go true s = refl
      go false true = refl
      go false false = refl

-- ---- open

module _ (m : List ℕ) (lots number f k : ℕ) where
  pub open_nowhere : memory_fits lots m ≡ false → Err NoSuchLot ≡ open_answer m lots number f k
  unfolding open_answer
  open_nowhere e = rw e

  module _ (there : memory_fits lots m ≡ true) where
    pub open_damaged : (survey_of m (Some number) lots).damaged ≡ true → Err Damaged ≡ open_answer m lots number f k
    unfolding open_answer survey_of
    open_damaged e = rw (there, e)

    module _ (whole : (survey_of m (Some number) lots).damaged ≡ false) where
      pub open_unfit : account_fits number f k ≡ false → Err UnfitAccount ≡ open_answer m lots number f k
      unfolding open_answer survey_of
      open_unfit e = rw (there, whole, e)

      pub open_placed : account_fits number f k ≡ true → place_in (survey_of m (Some number) lots) ≡ open_answer m lots number f k
      unfolding open_answer survey_of
      open_placed e = rw (there, whole, e) (placed m lots number)

  -- where an account is opened there is such a lot, and the account fits
  pub record Opening (i : ℕ) : Type 0 where
    pub inside : i * SIZE + SIZE ≤ length m
    pub was_free : is_free (view_of m i) ≡ true
    pub fits : account_fits number f k ≡ true
    pub small : (number < 2 ^ 16) × (f < 2 ^ 8) × (k < 2 ^ 16)

  pub opening : {i : ℕ} {r : Result ℕ Refusal} → r ≡ open_answer m lots number f k → r ≡ Ok i → Opening i
  unfolding open_answer account_fits
  opening {i} q e = go (memory_fits lots m) (some_below (λ j. is_damaged (view_of m j)) lots) (account_fits number f k) refl refl (sym q ∙ e)
    where
      go : (a b c : Bool) → memory_fits lots m ≡ a → account_fits number f k ≡ c
          → (if not a then Err NoSuchLot else if b then Err Damaged else if not c then Err UnfitAccount else place_for m lots number) ≡ Ok i → Opening i
      go false b c x y e = no_way cc
      go true true c x y e = no_way cc
      go true false false x y e = no_way cc
      go true false true x y e =
          let w = placing m lots number x e in
          record {
            inside = w.inside;
            was_free = w.lowest_free.passes;
            fits = y;
            small = (omega (arith, leb-true number 65535 (nth _ y 1)), omega (arith, leb-true f 8 (nth _ y 3)), omega (arith, leb-true k 128 (nth _ y 5)));
          }

-- ---- read

-- two tests, of which the second is made where the first passes
pub first_above : {a b : ℕ} (t : Bool) → b ≤ a → (ltb a b && t) ≡ false
first_above {a} {b} t x = rw (le-ltb a b x)

module _ {a b c d : ℕ} where
  pub both_below : a < b → c < d → (ltb a b && ltb c d) ≡ true
  both_below x y = rw (lt-ltb a b x) (lt-ltb c d y)

  pub second_above : a < b → d ≤ c → (ltb a b && ltb c d) ≡ false
  second_above x y = rw (lt-ltb a b x) (le-ltb c d y)

module _ (m : List ℕ) (lots lot number fragment key : ℕ) where
  pub read_refused : {r : Refusal} → finding_of (named m lots lot number) ≡ Err r → Err r ≡ read_answer m lots lot number fragment key
  unfolding read_answer
  read_refused e = rw (finding_refused m lots lot number e)

  module _ (n : numbers.Account) (e : finding_of (named m lots lot number) ≡ Ok n) where
    abbrev w : FoundHere m lots lot number n
    w = finding_found m lots lot number e

    abbrev within : ℕ → ℕ → Bool
    within f k = ltb fragment f && ltb key k

    same_limits : within w.account.fragments w.account.keys ≡ within n.fragments n.keys
    same_limits = sym (ap (λ x. within x.fragments x.keys) w.numbers)

    pub read_outside : within n.fragments n.keys ≡ false → Err OutsideAccount ≡ read_answer m lots lot number fragment key
    unfolding read_answer
    read_outside t = rw (w.is_named, same_limits ∙ t)

    module _ (t : within n.fragments n.keys ≡ true) where
      in_fragments : fragment < w.account.fragments
      in_fragments = ltb-true fragment w.account.fragments (and_l (ltb fragment w.account.fragments) _ (same_limits ∙ t))

      in_keys : key < w.account.keys
      in_keys = ltb-true key w.account.keys (and_r (ltb fragment w.account.fragments) _ (same_limits ∙ t))

      pub read_limits : (lot * SIZE + SIZE ≤ length m) × (fragment < MOST_FRAGMENTS) × (key < MOST_KEYS)
      read_limits = let h = held_fits_law m lot w.here.held in (lot_inside lots lot m w.here.there, omega (arith, in_fragments, h.0), omega (arith, in_keys, h.1))

      pub read_found : Ok (found_of (record_at (records_of (lot_of m lot)) fragment key)) ≡ read_answer m lots lot number fragment key
      unfolding read_answer view_of
      read_found = rw (w.is_named, same_limits ∙ t) (ap (λ r. Ok (found_of r)) ((holds_shown (lot_of m lot) w.here.held).records fragment key in_fragments in_keys))

-- ---- drop

drops : (v : Lot) (number : ℕ) → drop_from v number ≡ (if looks_damaged (look_from v) || looks_of number (look_from v) then Ok tt else Err NotThisAccount)
drops free number = refl
drops damaged number = refl
drops (holds a) number = refl

module _ (m : List ℕ) (lots lot number : ℕ) where
  pub drop_nowhere : lot_fits lots lot m ≡ false → Dropped m m lots lot number (Err NoSuchLot)
  unfolding drop_answer
  drop_nowhere e = record { answer = rw e; freed = refl }

  -- b: the lot looks damaged; c: it is the account's
  module _ (l : Look) (b c : Bool) (there : lot_fits lots lot m ≡ true) (seen : l ≡ look_from (view_of m lot)) (broken : b ≡ looks_damaged l) (own : c ≡ looks_of number l) where
    judged : drop_answer m lots lot number ≡ (if b || c then Ok tt else Err NotThisAccount)
    unfolding drop_answer
    judged = rw (there, broken, own, seen) (drops (view_of m lot) number)

    pub drop_other : (b || c) ≡ false → Dropped m m lots lot number (Err NotThisAccount)
    drop_other e = record { answer = sym (judged ∙ rw e); freed = refl }

    pub drop_done : {m' : List ℕ} → (b || c) ≡ true → Becomes lot m m' free → Dropped m m' lots lot number (Ok tt)
    drop_done e w = record { answer = sym (judged ∙ rw e); freed = w }
