-- The four sections of a lot.
use Rattle.std.specs.Prelude.{ℕ, ◌≡◌, List, ◌++◌, length, drop}
use Rattle.lot.specs.Layout.{head_of, streams_of, places_of, records_of}

-- the lot l has the head h, the streams s, the places p and the records r
pub record Sections (l h s p r : List ℕ) : Type 0 where
  pub head : head_of l ≡ h
  pub streams : streams_of l ≡ s
  pub places : places_of l ≡ p
  pub records : records_of l ≡ r

-- the lot m is l with another head, with other streams, places or records
module _ (l m : List ℕ) where
  abbrev pub WithHead : List ℕ → Type 0
  WithHead h = Sections m h (streams_of l) (places_of l) (records_of l)

  abbrev pub WithStreams : List ℕ → Type 0
  WithStreams s = Sections m (head_of l) s (places_of l) (records_of l)

  abbrev pub WithPlaces : List ℕ → Type 0
  WithPlaces p = Sections m (head_of l) (streams_of l) p (records_of l)

  abbrev pub WithRecords : List ℕ → Type 0
  WithRecords r = Sections m (head_of l) (streams_of l) (places_of l) r

-- a section whose first bytes are x
abbrev pub overwritten : List ℕ → List ℕ → List ℕ
overwritten x s = x ++ drop (length x) s
