-- One account: its fragments, each with a stream's counters, held entries and records.
use Rattle.std.specs.Prelude.{ℕ, Bool, List, [], ◌∷◌, leb, length}
use Rattle.model.specs.Lists.{every, sum_below}
use Rattle.model.specs.declared.Counters.{Counters}
use Rattle.model.specs.declared.Refusal.{Refusal}

-- an entry that awaits settlement, in the epoch that was open in its stream when it was taken
pub record Held : Type 0 where
  pub kind : ℕ
  pub transaction : ℕ
  pub argument : ℕ
  pub value : ℕ
  pub flagged : Bool
  pub epoch : ℕ

-- the key of a put or a delete, and the coordinator fragment of a P
abbrev pub key : Held → ℕ
key h = h.argument

abbrev pub coordinator : Held → ℕ
coordinator h = h.argument

-- a record of a fragment and a key: a value, or absent
pub data Record : Type 0 where
  absent : Record
  present : ℕ → Record

pub record Fragment : Type 0 where
  pub counters : Counters
  pub held : List Held
  pub records : ℕ → Record

-- an account: its number, f fragments, k keys a fragment, the last closed epoch, and its fragments by number
pub record Account : Type 0 where
  pub number : ℕ
  pub fragments : ℕ
  pub keys : ℕ
  pub closed : ℕ
  pub at : ℕ → Fragment

-- ---- limits

abbrev pub MOST_NUMBER : ℕ
MOST_NUMBER = 65535

abbrev pub MOST_FRAGMENTS : ℕ
MOST_FRAGMENTS = 8

abbrev pub MOST_KEYS : ℕ
MOST_KEYS = 128

abbrev pub MOST_HELD : ℕ
MOST_HELD = 256

-- refusal 15: account number, f or k unfit
unfoldable pub account_fits : ℕ → ℕ → ℕ → Bool
account_fits number f k = every (leb 1 number ∷ leb number MOST_NUMBER ∷ leb 1 f ∷ leb f MOST_FRAGMENTS ∷ leb 1 k ∷ leb k MOST_KEYS ∷ [])

-- ---- opening

-- a stream's next sequence number is first 0, and its open epoch first 1
abbrev pub fresh_counters : Counters
fresh_counters = record { next = 0; epoch = 1 }

abbrev pub empty : Fragment
empty = record { counters = fresh_counters; held = []; records = λ k. absent }

unfoldable pub fresh : ℕ → ℕ → ℕ → Account
fresh number f k = record { number = number; fragments = f; keys = k; closed = 0; at = λ i. empty }

-- how many entries are held
unfoldable pub held_count : Account → ℕ
held_count a = sum_below (λ i. length (a.at i).held) a.fragments

-- ---- what a call that names an account finds: the account, or why it is refused

pub data Named : Type 0 where
  refused : Refusal → Named
  found : Account → Named
