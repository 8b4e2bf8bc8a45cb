-- One entry of the program, by the page, and the calls by which the program makes that step.
use Rattle.std.specs.Prelude.{ℕ, ◌≡◌, List, [], ◌++◌, Ok, Err, Some, None}
use Rattle.model.specs.Account.{Account}
use Rattle.model.specs.Entry.{entry_of}
use Rattle.model.specs.Taking as model
use Rattle.model.specs.Taking.{judge}
use Rattle.model.specs.Closing.{judge_close, close}
use Rattle.model.specs.declared.Refusal.{Refusal}
use Rattle.lines.specs.Lines.{entry_line}
use Rattle.replaying.specs.declared.Refused.{Refused}
use Rattle.replaying.specs.Replaying.{number_of, refused_line, EntryDelivered, closed_text, NextClosed}

-- ---- by the page

-- the epochs of an account are closed while that can be, and printed: the account and the text, and what the account becomes
pub data Closings : Account → List ℕ → Account → Type 0 where
  stuck : {a : Account} → (judge_close a ≡ (Ok tt) → ⊥) → Closings a [] a
  closes : {a b : Account} {text : List ℕ} → judge_close a ≡ (Ok tt) → Closings (close a) text b → Closings a (closed_text a ++ text) b

-- entry `index` is delivered to an account: a refused one is printed; after a taken one epochs are closed while that can be
pub data Step (index : ℕ) (bytes : List ℕ) : Account → List ℕ → Account → Type 0 where
  refused : {a : Account} {r : Refusal} → judge a bytes ≡ Err r → Step index bytes a (entry_line index (number_of r)) a
  taken : {a b : Account} {text : List ℕ} → judge a bytes ≡ (Ok tt) → Closings (model.taken (entry_of bytes) a) text b → Step index bytes a text b

-- ---- by the calls: the memory, what the program writes out, and the memory afterwards

-- close_next, until it closes none
pub data CloseCalls (number : ℕ) : List ℕ → List ℕ → List ℕ → Type 0 where
  stop : {m m' : List ℕ} → NextClosed m m' number None → CloseCalls number m [] m'
  again : {m m' m'' out text : List ℕ} → NextClosed m m' number (Some out) → CloseCalls number m' text m'' → CloseCalls number m (out ++ text) m''

-- deliver_entry, and close_next after a taken entry
pub data EntryCalls (number index : ℕ) (bytes : List ℕ) : List ℕ → List ℕ → List ℕ → Type 0 where
  printed : {m m' : List ℕ} {why : Refused} → EntryDelivered m m' number index bytes (Err why) → EntryCalls number index bytes m (refused_line why) m'
  silent : {m m' m'' text : List ℕ} → EntryDelivered m m' number index bytes (Ok tt) → CloseCalls number m' text m'' → EntryCalls number index bytes m text m''
