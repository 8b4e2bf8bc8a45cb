-- What loading an image leaves in a lot.
use Rattle.std.specs.Prelude.{ℕ, ◌+◌, ◌*◌, ◌<◌, ◌≤◌, ◌≡◌, List, [], ◌∷◌, length, take, drop, Some}
use Rattle.model.specs.Account.{Account}
use Rattle.model.specs.Image.{Present}
use Rattle.model.specs.Decoding.{present_of, parse, load}
use Rattle.lot.specs.Layout.{streams_of, places_of, records_of}
use Rattle.lot.specs.View.{holds, view_lot}
use Rattle.lot.specs.Head.{head_bytes}
use Rattle.lot.specs.Writing.{with_record}
use Rattle.lot.specs.declared.Account as numbers
use Rattle.writes.specs.Sections.{Sections, overwritten}
use Rattle.writes.specs.Fresh.{Zeros}
use Rattle.trailer.specs.Trailer.{image_length}
use Rattle.trailer.specs.declared.Trailer.{Trailer}
use Rattle.judging.specs.Judging.{present_at}

-- ---- records: a lot has room for them

pub record SmallRecord (p : Present) : Type 0 where
  pub fragment : p.fragment < 8
  pub key : p.key < 128

abbrev pub SmallRecords : List ℕ → ℕ → Type 0
SmallRecords s n = (i : ℕ) → i < n → SmallRecord (present_at s i)

-- a section of records with one, and with all of a list, the last one put first
abbrev pub with_present : List ℕ → Present → List ℕ
with_present r p = with_record r p.fragment p.key p.value

unfoldable pub with_all : List ℕ → List Present → List ℕ
with_all r [] = r
with_all r (p ∷ ps) = with_present (with_all r ps) p

-- ---- an image b, whose trailer has the numbers t

pub record Loadable (t : Trailer) (b : List ℕ) : Type 0 where
  pub long : length b ≡ image_length t.account.fragments t.records t.account.held
  pub few_fragments : t.account.fragments ≤ 8
  pub few_held : t.account.held ≤ 256
  pub small_records : SmallRecords (drop (t.account.fragments * 8) b) t.records

-- head, streams and places; n are the numbers in the head
abbrev pub HeldLoaded : List ℕ → List ℕ → numbers.Account → List ℕ → List ℕ → Type 0
HeldLoaded l m n s p = Sections m (head_bytes n) (overwritten s (streams_of l)) (overwritten p (places_of l)) (records_of l)

pub record ImageLoaded (l m : List ℕ) (t : Trailer) (b : List ℕ) : Type 0 where
  -- the records before those of the image were put
  pub cleared : List ℕ
  pub zeros : Zeros cleared
  pub sized : length cleared ≡ 5120
  pub sections : Sections m (head_bytes t.account) (overwritten (take (t.account.fragments * 8) b) (streams_of l)) (overwritten (take (t.account.held * 20) (drop (t.account.fragments * 8 + t.records * 8) b)) (places_of l))
      (with_all cleared (parse t.records 8 present_of (drop (t.account.fragments * 8) b)))

-- the lot m holds the account that the data given show
abbrev pub LotLoaded : List ℕ → List ℕ → Type 0
LotLoaded given m = (a : Account) → load given ≡ Some a → view_lot m ≡ holds a
