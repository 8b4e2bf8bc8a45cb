-- What each return of load answers, and what it leaves of the memory. Assumes nothing.
use Prim.Native.Nat.{ℕ}
use mathlib.Core.Path.{◌≡◌, refl, sym, ap, ◌∙◌}
use mathlib.Core.Bool.{Bool, true, false, not}
use mathlib.Core.List.{List}
use Rattle.std.specs.Prelude.{if◌then◌else◌, Option, Some, None, Result, Ok, Err, ok_or}
use Rattle.std.specs.Option.{IsSomeAnd}
use Rattle.model.specs.Account.{Account}
use Rattle.model.specs.Decoding.{load}
use Rattle.model.specs.declared.Refusal.TheVariants as refusal
use Rattle.model.proofs.Tests.{no_way}
use Rattle.model.specs.declared.Refusal.{Refusal}
use Rattle.trailer.specs.declared.Trailer.{Trailer}
use Rattle.judging.specs.Judging.{trailer_of, judged_as, judged_of}
use Rattle.lots.specs.Memory.{memory_fits, view_of, is_damaged, some_below}
use Rattle.lots.specs.Looks.{survey_of, place_in}
use Rattle.standby.specs.Images.{load_from, load_answer}
use Rattle.standby.proofs.Calls.{Placing, placing, placed}

-- ---- what judged data show

-- the account of accepted data, of which t are the numbers
pub record Shown (given : List ℕ) (t : Trailer) : Type 0 where
  pub account : Account
  pub is_loaded : load given ≡ Some account
  pub numbers : t ≡ trailer_of account

module _ (given : List ℕ) where
  pub accepted_shows : {t : Trailer} → judged_of given ≡ Some t → Shown given t
  unfolding judged_of
  accepted_shows {t} e = go (load given) refl e
    where
      go : (o : Option Account) → load given ≡ o → judged_as o ≡ Some t → Shown given t
      go None q e = no_way cc
      go (Some a) q e = record { account = a; is_loaded = q; numbers = cc }

  refused_shows : judged_of given ≡ None → load given ≡ None
  unfolding judged_of
  refused_shows e = go (load given) refl e
    where
      go : (o : Option Account) → load given ≡ o → judged_as o ≡ None → o ≡ None
      go None q e = refl
      go (Some a) q e = no_way cc

-- what `ok_or` told of it
pub not_judged : (o : Option Trailer) {r : Refusal} → Err r ≡ ok_or o refusal.NotAccepted → (o ≡ None) × (r ≡ refusal.NotAccepted)
not_judged None e = (refl, cc)
not_judged (Some t) e = no_way cc

pub is_judged : (o : Option Trailer) {t : Trailer} → Ok t ≡ ok_or o refusal.NotAccepted → o ≡ Some t
is_judged None e = no_way cc
is_judged (Some t) e = cc

pub some_holds : (o : Option ℕ) (P : ℕ → Type 0) (n : ℕ) → IsSomeAnd o P → ((r : ℕ) → P r → r ≡ n) → o ≡ Some n
some_holds None P n w f = absurd w
some_holds (Some r) P n w f = ap Some (f r w)

-- ---- the answers

module _ (m : List ℕ) (lots : ℕ) (given : List ℕ) where
  pub load_nowhere : memory_fits lots m ≡ false → load_answer m lots given ≡ Err refusal.NoSuchLot
  unfolding load_answer
  load_nowhere e = rw e

  -- account: that of the data, if they show one
  module _ (there : memory_fits lots m ≡ true) (account : Option ℕ) where
    pub load_damaged : (survey_of m account lots).damaged ≡ true → load_answer m lots given ≡ Err refusal.Damaged
    unfolding load_answer survey_of
    load_damaged e = rw (there, e)

    module _ (whole : (survey_of m account lots).damaged ≡ false) where
      pub load_refused : judged_of given ≡ None → load_answer m lots given ≡ Err refusal.NotAccepted
      unfolding load_answer survey_of
      load_refused e = rw (there, whole, refused_shows given e)

      pub load_placed : {t : Trailer} → judged_of given ≡ Some t → account ≡ Some t.account.number → load_answer m lots given ≡ place_in (survey_of m account lots)
      unfolding load_answer survey_of trailer_of
      load_placed e q =
          let s = accepted_shows given e in
          let n : account ≡ Some s.account.number = q ∙ ap (λ t. Some t.account.number) s.numbers in
          rw (there, whole, s.is_loaded, n) (sym (placed m lots s.account.number))

  -- where data are loaded there is such a lot, and they show an account
  pub record Loading (i : ℕ) : Type 0 where
    pub there : memory_fits lots m ≡ true
    pub place : Placing m lots i
    pub account : Account
    pub shows : load given ≡ Some account

  pub loading : {i : ℕ} {r : Result ℕ Refusal} → r ≡ load_answer m lots given → r ≡ Ok i → Loading i
  unfolding load_answer
  loading {i} q e = go (memory_fits lots m) (some_below (λ j. is_damaged (view_of m j)) lots) (load given) refl refl (sym q ∙ e)
    where
      go : (a b : Bool) (o : Option Account) → memory_fits lots m ≡ a → load given ≡ o → (if not a then Err refusal.NoSuchLot else if b then Err refusal.Damaged else load_from m lots o) ≡ Ok i → Loading i
      go false b o x y e = no_way cc
      go true true o x y e = no_way cc
      go true false None x y e = no_way cc
      go true false (Some a) x y e = record { there = x; place = placing m lots a.number x e; account = a; shows = y }
