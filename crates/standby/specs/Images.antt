-- What save and load owe. Save: 1, 2, 3, 16; the image's length, and the image. Load: 1, 2, 17, 13, 14; the lot, and the account there.
use Rattle.std.specs.Prelude.{ℕ, ◌≡◌, not, List, ◌++◌, ltb, length, drop, if◌then◌else◌, Option, Some, None, Result, Ok, Err}
use Rattle.model.specs.Account.{Account, Named, refused, found}
use Rattle.model.specs.Image.{image, LONGEST_IMAGE}
use Rattle.model.specs.Decoding.{load}
use Rattle.model.specs.declared.Refusal.TheVariants.{NoSuchLot, Damaged, TooShort, NotAccepted}
use Rattle.model.specs.declared.Refusal.{Refusal}
use Rattle.lot.specs.View.{holds}
use Rattle.lots.specs.Memory.{memory_fits, view_of, named, is_damaged, some_below}
use Rattle.standby.specs.Calls.{place_for, OpenedAs}

-- ---- save; it lends its memory unchanged

abbrev pub save_from : Named → ℕ → Result ℕ Refusal
save_from (refused r) room = Err r
save_from (found a) room = if ltb room LONGEST_IMAGE then Err TooShort else Ok (length (image a))

unfoldable pub save_answer : List ℕ → ℕ → ℕ → ℕ → List ℕ → Result ℕ Refusal
save_answer m lots lot number buffer = save_from (named m lots lot number) (length buffer)

-- the named account's image stands at the front of the buffer, and the later bytes stay; a refusal changes nothing
abbrev pub SavedIn : List ℕ → ℕ → List ℕ → List ℕ → Result ℕ Refusal → Type 0
SavedIn m lot buffer buffer' (Ok n) = (a : Account) → view_of m lot ≡ holds a → buffer' ≡ image a ++ drop n buffer
SavedIn m lot buffer buffer' (Err r) = buffer' ≡ buffer

pub record AccountSaved (m : List ℕ) (lots lot number : ℕ) (buffer buffer' : List ℕ) (r : Result ℕ Refusal) : Type 0 where
  pub answer : r ≡ save_answer m lots lot number buffer
  pub saved : SavedIn m lot buffer buffer' r

-- ---- load

-- 17, then 13 and 14, where the data given show an account or none
abbrev pub load_from : List ℕ → ℕ → Option Account → Result ℕ Refusal
load_from m lots None = Err NotAccepted
load_from m lots (Some a) = place_for m lots a.number

unfoldable pub load_answer : List ℕ → ℕ → List ℕ → Result ℕ Refusal
load_answer m lots given =
    if not (memory_fits lots m) then Err NoSuchLot
    else if some_below (λ i. is_damaged (view_of m i)) lots then Err Damaged
    else load_from m lots (load given)

-- the lot answered holds the account that the data show, and nothing else has changed; a refusal changes nothing
abbrev pub LoadedAs : List ℕ → List ℕ → List ℕ → Result ℕ Refusal → Type 0
LoadedAs m m' given (Ok i) = (a : Account) → load given ≡ Some a → OpenedAs m m' a (Ok i)
LoadedAs m m' given (Err r) = m' ≡ m

pub record AccountLoaded (m m' : List ℕ) (lots : ℕ) (given : List ℕ) (r : Result ℕ Refusal) : Type 0 where
  pub answer : r ≡ load_answer m lots given
  pub loaded : LoadedAs m m' given r
