-- A held section: places of 20 bytes as the image has them, by stream, then position. One test of it serves load and the test of a lot.
use Rattle.std.specs.Prelude.{ℕ, ◌*◌, Bool, ◌&&◌, List, [], ◌∷◌, leb, eqb, get_or, drop}
use Rattle.model.specs.Lists.{every}
use Rattle.model.specs.Image.{Item}
use Rattle.model.specs.Decoding.{item_of, parse, held_fits}
use Rattle.model.specs.declared.Counters.{Counters}

-- the item at place i, and those of the first n places
abbrev pub item_at : List ℕ → ℕ → Item
item_at h i = item_of (drop (i * 20) h)

abbrev pub items : ℕ → List ℕ → List Item
items n h = parse n 20 item_of h

-- a place is plain: bytes 2, 3 and 10 zero, byte 11 at most 1
unfoldable pub plain_place : List ℕ → Bool
plain_place l = every (eqb (get_or l 2 0) 0 ∷ eqb (get_or l 3 0) 0 ∷ eqb (get_or l 10 0) 0 ∷ leb (get_or l 11 0) 1 ∷ [])

abbrev pub plain : ℕ → List ℕ → Bool
plain n h = every (parse n 20 plain_place h)

-- the first n places of the section h fit (k keys, c: the closed epoch, ss: the streams' counters)
unfoldable pub section_fits : ℕ → ℕ → List Counters → ℕ → List ℕ → Bool
section_fits k c ss n h = plain n h && held_fits k c ss [] (items n h)
