-- A run: a sequence of calls with any arguments on one lent memory, where each step satisfies its call's contract. Bytes that an image does not show are free, so a step is a relation.
use Rattle.std.specs.Prelude.{ℕ, ◌≡◌, List, [], ◌∷◌, Option, Result}
use Rattle.model.specs.Answers.{outcome_numbers, opened_numbers, closed_numbers, found_numbers, saved_numbers}
use Rattle.model.specs.declared.Numbers.{Numbers}
use Rattle.model.specs.declared.Refusal.{Refusal}
use Rattle.standby.specs.Calls.{Started, AccountOpened, Delivered, read_answer, Dropped}
use Rattle.standby.specs.Closing.{EpochClosed}
use Rattle.standby.specs.Images.{AccountSaved, AccountLoaded}
use Rattle.overview.specs.Overview.{Overviewed}
use Rattle.overview.specs.declared.Row.{Row}

-- the nine calls, each with its arguments; list, buffer and rows are lent
pub data Call : Type 0 where
  start : (lots : ℕ) → Call
  open_account : (lots number f k : ℕ) → Call
  deliver : (lots lot number : ℕ) (entry : List ℕ) → Call
  close_epoch : (lots lot number : ℕ) (list : List ℕ) → Call
  read_record : (lots lot number fragment key : ℕ) → Call
  save_account : (lots lot number : ℕ) (buffer : List ℕ) → Call
  load_account : (lots : ℕ) (given : List ℕ) → Call
  drop_account : (lots lot number : ℕ) → Call
  overview : (lots : ℕ) (rows : List Row) → Call

-- what a call is answered, and the lent list, buffer or rows afterwards
pub data Reply : Type 0 where
  outcome : Result (Unit {0}) Refusal → Reply
  opened : Result ℕ Refusal → Reply
  closed : Result ℕ Refusal → (list : List ℕ) → Reply
  found : Result (Option ℕ) Refusal → Reply
  saved : Result ℕ Refusal → (buffer : List ℕ) → Reply
  overviewed : Result (Unit {0}) Refusal → (rows : List Row) → Reply

abbrev pub reply_numbers : Reply → Numbers
reply_numbers (outcome r) = outcome_numbers r
reply_numbers (opened r) = opened_numbers r
reply_numbers (closed r list) = closed_numbers r
reply_numbers (found r) = found_numbers r
reply_numbers (saved r buffer) = saved_numbers r
reply_numbers (overviewed r rows) = outcome_numbers r

-- the call's contract holds of the memory before it, the reply and the memory after it
pub data Step (m : List ℕ) : Call → Reply → List ℕ → Type 0 where
  starts : {m' : List ℕ} {lots : ℕ} {r : Result (Unit {0}) Refusal} → Started m m' lots r → Step m (start lots) (outcome r) m'
  opens : {m' : List ℕ} {lots number f k : ℕ} {r : Result ℕ Refusal} → AccountOpened m m' lots number f k r → Step m (open_account lots number f k) (opened r) m'
  delivers : {m' : List ℕ} {lots lot number : ℕ} {entry : List ℕ} {r : Result (Unit {0}) Refusal} → Delivered m m' lots lot number entry r → Step m (deliver lots lot number entry) (outcome r) m'
  closes : {m' : List ℕ} {lots lot number : ℕ} {list list' : List ℕ} {r : Result ℕ Refusal} → EpochClosed m m' lots lot number list list' r → Step m (close_epoch lots lot number list) (closed r list') m'
  reads : {lots lot number fragment key : ℕ} {r : Result (Option ℕ) Refusal} → r ≡ read_answer m lots lot number fragment key → Step m (read_record lots lot number fragment key) (found r) m
  saves : {lots lot number : ℕ} {buffer buffer' : List ℕ} {r : Result ℕ Refusal} → AccountSaved m lots lot number buffer buffer' r → Step m (save_account lots lot number buffer) (saved r buffer') m
  loads : {m' : List ℕ} {lots : ℕ} {given : List ℕ} {r : Result ℕ Refusal} → AccountLoaded m m' lots given r → Step m (load_account lots given) (opened r) m'
  drops : {m' : List ℕ} {lots lot number : ℕ} {r : Result (Unit {0}) Refusal} → Dropped m m' lots lot number r → Step m (drop_account lots lot number) (outcome r) m'
  overviews : {lots : ℕ} {rows rows' : List Row} {r : Result (Unit {0}) Refusal} → Overviewed m lots rows rows' r → Step m (overview lots rows) (overviewed r rows') m

-- one turn of a run: a call and its reply
pub record Turn : Type 0 where
  pub call : Call
  pub reply : Reply

pub data Run : List ℕ → List Turn → List ℕ → Type 0 where
  ends : {m : List ℕ} → Run m [] m
  goes : {m m₁ m' : List ℕ} {c : Call} {r : Reply} {ts : List Turn} → Step m c r m₁ → Run m₁ ts m' → Run m (record { call = c; reply = r } ∷ ts) m'
