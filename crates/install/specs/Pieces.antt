-- The pieces that the verdicts pick, as places, and what installing them leaves in list and records.
use Rattle.std.specs.Prelude.{Option, Some, None, ℕ, zero, suc, ◌+◌, ◌*◌, ◌<◌, ◌≡◌, Bool, false, ◌&&◌, ◌||◌, List, [], ◌∷◌, ◌++◌, ltb, eqb, length, get_or, set, if◌then◌else◌}
use Rattle.model.specs.Lists.{sum_below}
use Rattle.model.specs.Entry.{P, CC, CP}
use Rattle.model.specs.Account.{Record}
use Rattle.model.specs.Section.{item_at}
use Rattle.lot.specs.View.{record_at}
use Rattle.verdicts.specs.declared.Verdict.{Verdict}
use Rattle.verdicts.specs.declared.Verdict.TheVariants.{Install, Flag}
use Rattle.install.specs.declared.Sort.{Sort}
use Rattle.install.specs.declared.Sort.TheVariants.{Committed, Flagged}
use Rattle.install.specs.Writes.{Changed, writes_before}

-- ---- which places are pieces of stream s: those of CC and CP that install, or those of P that are flagged

-- the verdict on an entry of this kind makes it a piece of this sort
abbrev pub picks : Sort → Option Verdict → ℕ → Bool
picks Committed (Some Install) kind = eqb kind CC || eqb kind CP
picks Flagged (Some Flag) kind = eqb kind P
picks _ _ kind = false

unfoldable pub is_piece : List (Option Verdict) → List ℕ → ℕ → Sort → ℕ → Bool
is_piece verdicts h s sort i = let x = item_at h i in eqb x.stream s && picks sort (get_or verdicts i None) x.entry.kind

abbrev pub piece_at : List (Option Verdict) → List ℕ → ℕ → Sort → ℕ → List ℕ
piece_at verdicts h s sort i = if is_piece verdicts h s sort i then i ∷ [] else []

-- among the first n places, by position
unfoldable pub pieces_till : List (Option Verdict) → List ℕ → ℕ → Sort → ℕ → List ℕ
pieces_till verdicts h s sort zero = []
pieces_till verdicts h s sort (suc n) = pieces_till verdicts h s sort n ++ piece_at verdicts h s sort n

-- of a stream: those with CC or CP first, then the flagged ones
abbrev pub pieces_of : List (Option Verdict) → List ℕ → ℕ → ℕ → List ℕ
pieces_of verdicts h n s = pieces_till verdicts h s Committed n ++ pieces_till verdicts h s Flagged n

-- ---- what they leave

-- the list with the pieces of stream s at these places, from the p-th pair on
unfoldable pub with_pieces : List ℕ → List ℕ → ℕ → ℕ → List ℕ → List ℕ
with_pieces h l p s [] = l
with_pieces h l p s (i ∷ is) = with_pieces h (set (set l (p * 2) s) (p * 2 + 1) (item_at h i).entry.transaction) (suc p) s is

-- the record of key k after the writes of one piece after the other
unfoldable pub after_pieces : List ℕ → List ℕ → ℕ → Record → Record
after_pieces h [] k y = y
after_pieces h (i ∷ is) k y = after_pieces h is k (writes_before h i k y)

-- the pieces at these places, of stream s, are installed: list l and records r, p pieces before them
pub record Installed (h is : List ℕ) (s : ℕ) (l l' r r' : List ℕ) (p p' : ℕ) : Type 0 where
  pub counted : p' ≡ p + length is
  pub listed : l' ≡ with_pieces h l p s is
  pub records : Changed r r' s (after_pieces h is)

-- ---- of all streams below f

abbrev pub count_of : List (Option Verdict) → List ℕ → ℕ → ℕ → ℕ
count_of verdicts h n f = sum_below (λ s. length (pieces_of verdicts h n s)) f

unfoldable pub with_streams : List (Option Verdict) → List ℕ → ℕ → List ℕ → ℕ → List ℕ
with_streams verdicts h n l zero = l
with_streams verdicts h n l (suc f) = with_pieces h (with_streams verdicts h n l f) (count_of verdicts h n f) f (pieces_of verdicts h n f)

pub record InstalledAll (verdicts : List (Option Verdict)) (h : List ℕ) (n f : ℕ) (l l' r r' : List ℕ) (p : ℕ) : Type 0 where
  pub counted : p ≡ count_of verdicts h n f
  pub listed : l' ≡ with_streams verdicts h n l f
  pub size : length r' ≡ length r
  pub records : (j k : ℕ) → k < 128 → record_at r' j k ≡ (if ltb j f then after_pieces h (pieces_of verdicts h n j) k (record_at r j k) else record_at r j k)
