-- What a close leaves of a held section, place by place, by the verdicts.
use Rattle.std.specs.Prelude.{Option, Some, None, ℕ, zero, suc, ◌≡◌, true, List, [], ◌∷◌, ◌++◌, eqb, get_or, if◌then◌else◌}
use Rattle.model.specs.Entry.{P}
use Rattle.model.specs.Closing.{with_flag}
use Rattle.model.specs.Image.{Item}
use Rattle.model.specs.Decoding.{item_of}
use Rattle.model.specs.Section.{plain_place, plain, item_at, items}
use Rattle.verdicts.specs.declared.Verdict.{Verdict}
use Rattle.verdicts.specs.declared.Verdict.TheVariants.{Free, Install, Flag, Stay}

abbrev pub flagged_item : Item → Item
flagged_item x = record { stream = x.stream; entry = with_flag x.entry }

-- nothing is left of an entry that is freed or installed, nor of a write where the P is flagged
unfoldable pub left_of : Option Verdict → Item → List Item
left_of (Some Free) x = []
left_of (Some Install) x = []
left_of (Some Flag) x = if eqb x.entry.kind P then flagged_item x ∷ [] else []
left_of (Some Stay) x = x ∷ []
left_of None x = x ∷ []

-- the flag byte that is left of an entry of this kind and flag byte
abbrev pub flag_left : Option Verdict → ℕ → ℕ → Option ℕ
flag_left (Some Free) kind flag = None
flag_left (Some Install) kind flag = None
flag_left (Some Flag) kind flag = if eqb kind P then Some 1 else None
flag_left (Some Stay) kind flag = Some flag
flag_left None kind flag = Some flag

-- of the first n places
unfoldable pub left_upto : List (Option Verdict) → List ℕ → ℕ → List Item
left_upto verdicts h zero = []
left_upto verdicts h (suc n) = left_upto verdicts h n ++ left_of (get_or verdicts n None) (item_at h n)

-- the section h of m places becomes h' of m', with what a verdict leaves of the place r after them
pub record Kept (h h' : List ℕ) (m m' : ℕ) (verdict : Option Verdict) (r : List ℕ) : Type 0 where
  pub items_are : items m' h' ≡ items m h ++ left_of verdict (item_of r)
  pub stays_plain : plain m h ≡ true → plain_place r ≡ true → plain m' h' ≡ true

-- and with what the verdicts leave of the first n places of `old`
pub record Left (h' : List ℕ) (m' : ℕ) (verdicts : List (Option Verdict)) (old : List ℕ) (n : ℕ) : Type 0 where
  pub items_are : items m' h' ≡ left_upto verdicts old n
  pub stays_plain : plain n old ≡ true → plain m' h' ≡ true
