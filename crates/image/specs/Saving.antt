-- What saving a lot leaves in the lent buffer.
use Rattle.std.specs.Prelude.{ℕ, ◌+◌, ◌*◌, ◌-◌, ◌/◌, ◌≤◌, ◌≡◌, List, ◌++◌, length, take, drop}
use Rattle.model.specs.Lists.{upward}
use Rattle.model.specs.Account.{Account}
use Rattle.model.specs.Image.{Present, shown, record8, each, image}
use Rattle.lot.specs.Layout.{streams_of, places_of, records_of}
use Rattle.lot.specs.View.{record_at, holds, view_lot}
use Rattle.lot.specs.declared.Account as numbers
use Rattle.trailer.specs.declared.Trailer.{Trailer}
use Rattle.image.specs.declared.Saving.{Saving}

-- the bytes x written in m from index `at` on
abbrev pub written : List ℕ → ℕ → List ℕ → List ℕ
written m at x = take at m ++ (x ++ drop (at + length x) m)

-- m' is m with the bytes x from index `at` on, and `end` is the index behind them
pub record Written (m m' : List ℕ) (at end : ℕ) (x : List ℕ) : Type 0 where
  pub bytes : m' ≡ written m at x
  pub behind : end ≡ at + length x

-- the bytes x are written in the lent buffer, behind those that are
pub record Extends (s s' : Saving) (x : List ℕ) : Type 0 where
  pub same_buffer : s'.image.ghost_name ≡ s.image.ghost_name
  pub written : Written s.image.now s'.image.now s.end s'.end x

-- ---- the records of a lot's section r: of one fragment and key, of fragment i below k keys, and of f fragments

abbrev pub present_in : List ℕ → ℕ → ℕ → List Present
present_in r i k = shown i k (record_at r i k)

unfoldable pub fragment_bytes : List ℕ → ℕ → ℕ → List ℕ
fragment_bytes r i k = each record8 (upward k 0 (present_in r i))

unfoldable pub record_bytes : List ℕ → ℕ → ℕ → List ℕ
record_bytes r k f = each record8 (upward f 0 (λ i. upward k 0 (present_in r i)))

-- ---- the sections of the lot l, whose head has the numbers n, one after the other: all but the trailer

abbrev pub section_bytes : List ℕ → numbers.Account → List ℕ
section_bytes l n = take (n.fragments * 8) (streams_of l) ++ (record_bytes (records_of l) n.keys n.fragments ++ take (n.held * 20) (places_of l))

pub record SectionsSaved (l : List ℕ) (n : numbers.Account) (m m' : List ℕ) (end : ℕ) : Type 0 where
  pub bytes : Written m m' 0 end (section_bytes l n)
  pub short : end ≤ 13376

-- the numbers of the trailer behind them, from index `end` on
unfoldable pub trailer_behind : numbers.Account → ℕ → Trailer
trailer_behind n end = record {
  account = n;
  records = (end - (n.fragments * 8 + n.held * 20)) / 8;
  length = end + 24;
}

-- the account's image at the front of the buffer, its length answered, and the later bytes as they were
pub record SavedAs (m m' : List ℕ) (r : ℕ) (a : Account) : Type 0 where
  pub answer : r ≡ length (image a)
  pub bytes : m' ≡ image a ++ drop (length (image a)) m

abbrev pub LotSaved : List ℕ → List ℕ → List ℕ → ℕ → Type 0
LotSaved l m m' r = (a : Account) → view_lot l ≡ holds a → SavedAs m m' r a
