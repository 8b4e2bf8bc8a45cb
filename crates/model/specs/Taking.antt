-- Taking an entry: what deliver judges, and what a taken entry changes.
use Rattle.std.specs.Prelude.{ℕ, suc, Bool, false, not, ◌&&◌, List, [], ◌∷◌, ◌++◌, leb, eqb, length, if◌then◌else◌, Result, Ok, Err}
use Rattle.model.specs.Entry.{LENGTH, entry_of, is_mark, fits, inside}
use Rattle.model.specs.Distance.{distance, below_zero, above_zero, after}
use Rattle.model.specs.Account.{Held, Fragment, Account, held_count, MOST_HELD, Named, refused, found}
use Rattle.model.specs.Stages.{stage, takes}
use Rattle.model.specs.declared.Entry.{Entry}
use Rattle.model.specs.declared.Stage.{Stage}
use Rattle.model.specs.declared.Counters.{Counters}
use Rattle.model.specs.declared.Refusal.TheVariants.{WrongLength, Unfit, OutsideAccount, Seen, Gap, WrongMark, OutOfTurn, Full}
use Rattle.model.specs.declared.Refusal.{Refusal}

-- ---- 9, 10 and 11

-- the mark isn't the stream's open epoch
abbrev pub wrong_mark : ℕ → Entry → Bool
wrong_mark epoch e = is_mark e && not (eqb e.transaction epoch)

-- the table doesn't take it, where its transaction is at this stage in this stream
abbrev pub not_taken : Stage → Entry → Bool
not_taken s e = not (is_mark e) && not (takes e.kind s)

-- so many entries are held; a mark occupies no place
abbrev pub full : ℕ → Entry → Bool
full n e = not (is_mark e) && leb MOST_HELD n

-- ---- the judgement, a line for each refusal, in its order

unfoldable pub judge_entry : Account → Entry → Result (Unit {0}) Refusal
judge_entry a e =
    let s = a.at e.fragment in
    let d = distance e.sequence s.counters.next in
    if not (fits e) then Err Unfit
    else if not (inside a.fragments a.keys e) then Err OutsideAccount
    else if below_zero d then Err Seen
    else if above_zero d then Err Gap
    else if wrong_mark s.counters.epoch e then Err WrongMark
    else if not_taken (stage e.transaction s.held) e then Err OutOfTurn
    else if full (held_count a) e then Err Full
    else Ok tt

unfoldable pub judge : Account → List ℕ → Result (Unit {0}) Refusal
judge a bytes = if not (eqb (length bytes) LENGTH) then Err WrongLength else judge_entry a (entry_of bytes)

-- deliver's answer: 1 to 3 where the account is not found, 4 to 11 where it is
abbrev pub deliver_to : Named → List ℕ → Result (Unit {0}) Refusal
deliver_to (refused r) bytes = Err r
deliver_to (found a) bytes = judge a bytes

-- ---- a taken entry

-- the number steps, and a mark raises the open epoch
unfoldable pub stepped : Counters → Bool → Counters
stepped c mark = record { next = after c.next; epoch = if mark then suc c.epoch else c.epoch }

-- the entry as it is held, in epoch n
unfoldable pub hold : Entry → ℕ → Held
hold e n = record { kind = e.kind; transaction = e.transaction; argument = e.argument; value = e.value; flagged = false; epoch = n }

-- a mark occupies no place; every other entry occupies one, in the open epoch
unfoldable pub take : Fragment → Entry → Fragment
take s e = record {
  counters = stepped s.counters (is_mark e);
  held = if is_mark e then s.held else s.held ++ hold e s.counters.epoch ∷ [];
  records = s.records;
}

unfoldable pub taken : Entry → Account → Account
taken e a = record {
  number = a.number;
  fragments = a.fragments;
  keys = a.keys;
  closed = a.closed;
  at = λ j. if eqb e.fragment j then take (a.at j) e else a.at j;
}
