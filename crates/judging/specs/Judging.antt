-- What judging data answers, by the model's load; and the tests of an image's sections that it is made of.
use Rattle.std.specs.Prelude.{ℕ, zero, suc, ◌+◌, ◌*◌, Bool, true, ◌&&◌, ◌||◌, List, [], ◌∷◌, ltb, eqb, length, get_or, drop, Option, Some, None}
use Rattle.model.specs.Lists.{every}
use Rattle.model.specs.Account.{Account, held_count}
use Rattle.model.specs.Image.{Present, form, image}
use Rattle.model.specs.Decoding.{counters_of, present_of, parse, load}
use Rattle.model.specs.Section.{section_fits}
use Rattle.lot.specs.View.{stream_fits, all_below}
use Rattle.lot.specs.Head.{numbers_with}
use Rattle.trailer.specs.declared.Trailer.{Trailer}

-- the numbers that the trailer of an account's image has
unfoldable pub trailer_of : Account → Trailer
trailer_of a = record {
  account = numbers_with (held_count a) a;
  records = length (form a).records;
  length = length (image a);
}

abbrev pub judged_as : Option Account → Option Trailer
judged_as None = None
judged_as (Some a) = Some (trailer_of a)

unfoldable pub judged_of : List ℕ → Option Trailer
judged_of given = judged_as (load given)

-- ---- the records of an image, 8 bytes each

abbrev pub present_at : List ℕ → ℕ → Present
present_at s i = present_of (drop (i * 8) s)

-- q comes after p: by fragment, then key, without repeats
unfoldable pub comes_after : Present → Present → Bool
comes_after p q = ltb p.fragment q.fragment || eqb p.fragment q.fragment && ltb p.key q.key

-- the record comes after the one before it
unfoldable pub in_order : List ℕ → ℕ → Bool
in_order s zero = true
in_order s (suc i) = comes_after (present_at s i) (present_at s (suc i))

-- its zero byte is zero
abbrev pub plain_record : List ℕ → ℕ → Bool
plain_record s i = eqb (get_or s (i * 8 + 1) 0) 0

unfoldable pub record_fits : ℕ → ℕ → List ℕ → ℕ → Bool
record_fits f k s i = every (plain_record s i ∷ ltb (present_at s i).fragment f ∷ ltb (present_at s i).key k ∷ in_order s i ∷ [])

-- ---- the three sections of an image whose trailer has the numbers t

unfoldable pub sections_fit : Trailer → List ℕ → Bool
sections_fit t b =
    let records = drop (t.account.fragments * 8) b in
    every (
    all_below (stream_fits t.account.closed b) t.account.fragments
    ∷ all_below (record_fits t.account.fragments t.account.keys records) t.records
    ∷ section_fits t.account.keys t.account.closed (parse t.account.fragments 8 counters_of b) t.account.held (drop (t.records * 8) records)
    ∷ []
    )
