-- What the bytes of a lot mean: it is free, damaged, or holds an account.
use Rattle.std.specs.Prelude.{ℕ, zero, suc, ◌+◌, ◌*◌, Bool, true, ◌&&◌, List, [], ◌∷◌, leb, ltb, eqb, get_or, take, drop, if◌then◌else◌}
use Rattle.wire.specs.Numbers.{number16, number32}
use Rattle.model.specs.Lists.{every}
use Rattle.model.specs.Account.{Record, absent, present, Fragment, Account, empty, account_fits, MOST_HELD, Named, refused, found}
use Rattle.model.specs.declared.Refusal.TheVariants.{Damaged, NotThisAccount}
use Rattle.model.specs.Decoding.{counters_of, item_of, parse, mine, same}
use Rattle.model.specs.Section.{section_fits}
use Rattle.lot.specs.Layout.{head_of, streams_of, places_of, records_of, FREE, OPEN}

-- ---- the head: tag 4, account 2, f 1, zero 1, k 2, held count 2, closed epoch 4

abbrev pub tag_of : List ℕ → List ℕ
tag_of h = take 4 h

abbrev pub number_of : List ℕ → ℕ
number_of h = number16 h 4

abbrev pub fragments_of : List ℕ → ℕ
fragments_of h = get_or h 6 0

abbrev pub keys_of : List ℕ → ℕ
keys_of h = number16 h 8

abbrev pub count_of : List ℕ → ℕ
count_of h = number16 h 10

abbrev pub closed_of : List ℕ → ℕ
closed_of h = number32 h 12

-- ---- a record: presence 1 (0 absent, anything else present), value 4, at fragment × 128 + key

unfoldable pub record_at : List ℕ → ℕ → ℕ → Record
record_at r i k = if eqb (get_or r ((i * 128 + k) * 5) 0) 0 then absent else present (number32 r ((i * 128 + k) * 5 + 1))

-- ---- the account of a head h, streams s, places p and records r; what stands past f, k and the held count means nothing

unfoldable pub fragment_at : List ℕ → List ℕ → List ℕ → List ℕ → ℕ → Fragment
fragment_at h s p r i = record {
  counters = counters_of (drop (i * 8) s);
  held = mine i (parse (count_of h) 20 item_of p);
  records = λ k. if ltb k (keys_of h) then record_at r i k else absent;
}

unfoldable pub account_of : List ℕ → List ℕ → List ℕ → List ℕ → Account
account_of h s p r = record {
  number = number_of h;
  fragments = fragments_of h;
  keys = keys_of h;
  closed = closed_of h;
  at = λ i. if ltb i (fragments_of h) then fragment_at h s p r i else empty;
}

-- ---- the well-formedness test: it reads no record

unfoldable pub head_fits : List ℕ → Bool
head_fits h = every (account_fits (number_of h) (fragments_of h) (keys_of h) ∷ eqb (get_or h 7 0) 0 ∷ leb (count_of h) MOST_HELD ∷ [])

-- stream i: its zero bytes zero, its open epoch above c, the closed one
unfoldable pub stream_fits : ℕ → List ℕ → ℕ → Bool
stream_fits c s i = every (eqb (number16 s (i * 8 + 2)) 0 ∷ ltb c (number32 s (i * 8 + 4)) ∷ [])

unfoldable pub all_below : (ℕ → Bool) → ℕ → Bool
all_below p zero = true
all_below p (suc n) = all_below p n && p n

unfoldable pub fits : List ℕ → List ℕ → List ℕ → Bool
fits h s p =
    every (
    head_fits h
    ∷ all_below (stream_fits (closed_of h) s) (fragments_of h)
    ∷ section_fits (keys_of h) (closed_of h) (parse (fragments_of h) 8 counters_of s) (count_of h) p
    ∷ []
    )

-- ---- the view

pub data Lot : Type 0 where
  free damaged : Lot
  holds : Account → Lot

unfoldable pub view : List ℕ → List ℕ → List ℕ → List ℕ → Lot
view h s p r =
    if same (tag_of h) FREE then free
    else if same (tag_of h) OPEN && fits h s p then holds (account_of h s p r)
    else damaged

unfoldable pub view_lot : List ℕ → Lot
view_lot l = view (head_of l) (streams_of l) (places_of l) (records_of l)

-- ---- 2 and 3: what a call finds that names an account in a lot

abbrev pub account_in : Lot → ℕ → Named
account_in damaged number = refused Damaged
account_in free number = refused NotThisAccount
account_in (holds a) number = if eqb a.number number then found a else refused NotThisAccount
