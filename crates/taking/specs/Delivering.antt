-- Delivering one entry to one lot: what it is answered, and what the lot becomes.
use Rattle.std.specs.Prelude.{ℕ, ◌+◌, ◌*◌, ◌<◌, ◌^◌, ◌≡◌, Bool, List, drop, if◌then◌else◌, Result, Ok, Err}
use Rattle.model.specs.Entry.{entry_of}
use Rattle.model.specs.Account.{Held, Account}
use Rattle.model.specs.Stages.{stage}
use Rattle.model.specs.Distance.{distance, below_zero, above_zero}
use Rattle.model.specs.Taking.{wrong_mark, not_taken, full, judge_entry, judge, deliver_to, stepped, taken}
use Rattle.model.specs.Decoding.{counters_of}
use Rattle.model.specs.declared.Entry.{Entry}
use Rattle.model.specs.declared.Counters.{Counters}
use Rattle.model.specs.declared.Stage.{Stage}
use Rattle.model.specs.declared.Refusal.TheVariants.{Seen, Gap, WrongMark, OutOfTurn, Full}
use Rattle.model.specs.declared.Refusal.{Refusal}
use Rattle.places.specs.Places.{EntryHeld}
use Rattle.lot.specs.Layout.{streams_of, places_of}
use Rattle.lot.specs.View.{holds, view_lot, account_in}
use Rattle.writes.specs.Sections.{WithStreams, WithPlaces}
use Rattle.lot.specs.Writing.{with_counters}
use Rattle.lot.specs.Look.{Looked}
use Rattle.lot.specs.declared.Account as numbers

-- ---- the judgement, by what its parts look at

-- 9, 10 and 11 of an entry that is due: epoch o is open in its stream, its transaction is at stage s there, and n entries are held
unfoldable pub judge_due : ℕ → Stage → ℕ → Entry → Result (Unit {0}) Refusal
judge_due o s n e =
    if wrong_mark o e then Err WrongMark
    else if not_taken s e then Err OutOfTurn
    else if full n e then Err Full
    else Ok tt

-- 7 to 11 of an entry inside the account: its stream has the counters c and holds hs, and n entries are held in all
unfoldable pub judge_inside : Counters → List Held → ℕ → Entry → Result (Unit {0}) Refusal
judge_inside c hs n e =
    let d = distance e.sequence c.next in
    if below_zero d then Err Seen
    else if above_zero d then Err Gap
    else judge_due c.epoch (stage e.transaction hs) n e

-- r is what the account that the lot l holds judges of an entry, and of an entry's bytes
abbrev pub EntryJudged : List ℕ → Entry → Result (Unit {0}) Refusal → Type 0
EntryJudged l e r = (a : Account) → view_lot l ≡ holds a → r ≡ judge_entry a e

abbrev pub Judged : List ℕ → List ℕ → Result (Unit {0}) Refusal → Type 0
Judged l bytes r = (a : Account) → view_lot l ≡ holds a → r ≡ judge a bytes

-- ---- the write

-- an entry that is to be taken: so the lot was looked at and the entry judged
pub record Due (l : List ℕ) (n : numbers.Account) (bytes : List ℕ) : Type 0 where
  pub looked : Looked l n
  pub done : Judged l bytes (Ok tt)

-- the lot l' is l with the counters of stream i stepped; epoch o was open there
pub record StreamStepped (l l' : List ℕ) (i : ℕ) (mark : Bool) (o : ℕ) : Type 0 where
  pub was : o ≡ (counters_of (drop (i * 8) (streams_of l))).epoch
  pub small : (stepped (counters_of (drop (i * 8) (streams_of l))) mark).epoch < 2 ^ 32
  pub streams : WithStreams l l' (with_counters (streams_of l) i (stepped (counters_of (drop (i * 8) (streams_of l))) mark))

-- the lot l' is l with the entry held in epoch o, where n were held
pub record HeldIn (l l' : List ℕ) (n : ℕ) (bytes : List ℕ) (o : ℕ) : Type 0 where
  pub places : WithPlaces l l' (places_of l')
  pub held : EntryHeld (places_of l) (places_of l') n bytes o

-- the numbers of an account that holds one entry more
abbrev pub one_more : numbers.Account → numbers.Account
one_more n = record { number = n.number; fragments = n.fragments; keys = n.keys; held = n.held + 1; closed = n.closed }

-- the lot l' holds the account of l with the entry taken
abbrev pub Taken : List ℕ → List ℕ → List ℕ → Type 0
Taken l l' bytes = (a : Account) → view_lot l ≡ holds a → view_lot l' ≡ holds (taken (entry_of bytes) a)

-- ---- 2 and 3, then the judgement; a refusal changes nothing

abbrev pub Left : List ℕ → List ℕ → List ℕ → Result (Unit {0}) Refusal → Type 0
Left l l' bytes (Ok _) = Taken l l' bytes
Left l l' bytes (Err r) = l' ≡ l

pub record Delivered (l l' : List ℕ) (number : ℕ) (bytes : List ℕ) (r : Result (Unit {0}) Refusal) : Type 0 where
  pub answer : r ≡ deliver_to (account_in (view_lot l) number) bytes
  pub left : Left l l' bytes r
