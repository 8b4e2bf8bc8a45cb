-- How load finds the account: the trailer is followed back, and what is read is tested. That this decides what specs/Accepting.antt says is proved.
use Rattle.std.specs.Prelude.{ℕ, zero, suc, ◌+◌, ◌*◌, ◌-◌, Bool, true, false, ◌&&◌, List, [], ◌∷◌, ◌++◌, leb, ltb, eqb, length, get_or, drop, if◌then◌else◌, Option, Some, None}
use Rattle.wire.specs.Numbers.{number16, number32}
use Rattle.model.specs.Lists.{every, all}
use Rattle.model.specs.Account.{Held, Record, absent, present, Account, fresh_counters, account_fits, MOST_HELD}
use Rattle.model.specs.Stages.{stage}
use Rattle.model.specs.Accepting.{entry_fits, follows}
use Rattle.model.specs.Image.{Present, Item, Form, bytes}
use Rattle.model.specs.declared.Counters.{Counters}

-- ---- reading

unfoldable pub counters_of : List ℕ → Counters
counters_of l = record { next = number16 l 0; epoch = number32 l 4 }

unfoldable pub present_of : List ℕ → Present
present_of l = record { fragment = get_or l 0 0; key = number16 l 2; value = number32 l 4 }

unfoldable pub item_of : List ℕ → Item
item_of l = record {
  stream = get_or l 1 0;
  entry = record { kind = get_or l 0 0; transaction = number32 l 4; argument = number16 l 8; value = number32 l 12; flagged = eqb (get_or l 11 0) 1; epoch = number32 l 16 };
}

module _ {X : Type 0} where
  -- n parts of l, of so many bytes each; `dec` reads the first so many bytes
  unfoldable pub parse : ℕ → ℕ → (List ℕ → X) → List ℕ → List X
  parse zero size dec l = []
  parse (suc n) size dec l = dec l ∷ parse n size dec (drop size l)

-- the last n of l
unfoldable pub last_of : ℕ → List ℕ → List ℕ
last_of n l = drop (length l - n) l

-- by the trailer t, what the image l shows
unfoldable pub decode_with : List ℕ → List ℕ → Form
decode_with t l =
    let f = get_or t 2 0 in
    let r = number16 t 6 in
    record {
      number = number16 t 0;
      keys = number16 t 4;
      closed = number32 t 12;
      streams = parse f 8 counters_of l;
      records = parse r 8 present_of (drop (f * 8) l);
      held = parse (number16 t 8) 20 item_of (drop (r * 8) (drop (f * 8) l));
    }

-- as many last bytes as the trailer says, and none before them
unfoldable pub decode : List ℕ → Form
decode l = decode_with (last_of 24 l) (last_of (number32 (last_of 24 l) 16) l)

-- ---- the account that an image shows

-- the held entries of stream i
unfoldable pub mine : ℕ → List Item → List Held
mine i [] = []
mine i (e ∷ es) = if eqb e.stream i then e.entry ∷ mine i es else mine i es

unfoldable pub find : ℕ → ℕ → List Present → Record
find i k [] = absent
find i k (r ∷ rs) = if eqb r.fragment i && eqb r.key k then present r.value else find i k rs

abbrev pub counters_at : List Counters → ℕ → Counters
counters_at ss i = get_or ss i fresh_counters

unfoldable pub account : Form → Account
account x = record {
  number = x.number;
  fragments = length x.streams;
  keys = x.keys;
  closed = x.closed;
  at = λ i. record { counters = counters_at x.streams i; held = mine i x.held; records = λ k. find i k x.records };
}

-- ---- the test

module _ (k c : ℕ) (ss : List Counters) where
  -- e comes after the held entries before it, by stream
  unfoldable pub item_fits : List Item → Item → Bool
  item_fits before e =
      let hs = mine e.stream before in
      every (
      all (λ g. leb g.stream e.stream) before
      ∷ entry_fits (length ss) k e.stream e.entry
      ∷ follows c (counters_at ss e.stream).epoch hs (stage e.entry.transaction hs) e.entry
      ∷ []
      )

  unfoldable pub held_fits : List Item → List Item → Bool
  held_fits before [] = true
  held_fits before (e ∷ es) = item_fits before e && held_fits (before ++ e ∷ []) es

-- by fragment, then key, without repeats: each next record stands at a later place (k is at most 128)
abbrev pub place : Present → ℕ
place r = 128 * r.fragment + r.key

unfoldable pub records_fit : ℕ → ℕ → ℕ → List Present → Bool
records_fit f k least [] = true
records_fit f k least (r ∷ rs) = every (ltb r.fragment f ∷ ltb r.key k ∷ leb least (place r) ∷ []) && records_fit f k (suc (place r)) rs

unfoldable pub form_fits : Form → Bool
form_fits x =
    let f = length x.streams in
    every (
    account_fits x.number f x.keys
    ∷ leb (length x.held) MOST_HELD
    ∷ all (λ s. ltb x.closed s.epoch) x.streams
    ∷ records_fit f x.keys 0 x.records
    ∷ held_fits x.keys x.closed x.streams [] x.held
    ∷ []
    )

unfoldable pub same : List ℕ → List ℕ → Bool
same [] [] = true
same [] (y ∷ ys) = false
same (x ∷ xs) [] = false
same (x ∷ xs) (y ∷ ys) = eqb x y && same xs ys

-- zeros zero, counts and length agreeing: the data ends with the bytes of what was read from it
unfoldable pub accepts : List ℕ → Bool
accepts l =
    let b = bytes (decode l) in
    form_fits (decode l) && (leb (length b) (length l) && same (last_of (length b) l) b)

unfoldable pub load : List ℕ → Option Account
load l = if accepts l then Some (account (decode l)) else None
