-- A whole run of the program: what it prints of a header and entries, by the page, and the calls by which it does.
use Rattle.std.specs.Prelude.{ℕ, suc, ◌≡◌, Bool, true, false, List, [], ◌∷◌, ◌++◌, length, Result, Ok, Err}
use Rattle.model.specs.declared.Refusal.{Refusal}
use Rattle.model.specs.Account.{Account, account_fits, fresh}
use Rattle.model.specs.declared.Refusal.TheVariants.{UnfitAccount}
use Rattle.lot.specs.Layout.{SIZE}
use Rattle.lots.specs.Memory.{named}
use Rattle.standby.specs.Calls.{Started}
use Rattle.lines.specs.Lines.{open_line}
use Rattle.replaying.specs.Replaying.{number_of, refused_line, header_of, HeaderOpened, account_text, last_text}
use Rattle.replaying.specs.Steps.{Step, EntryCalls}
use Rattle.replaying.specs.declared.Header.{Header}
use Rattle.replaying.specs.declared.Refused.{Refused}

-- ---- by the page

-- entries are delivered one after the other, from index i on
pub data Steps : ℕ → List (List ℕ) → Account → List ℕ → Account → Type 0 where
  ended : {i : ℕ} {a : Account} → Steps i [] a [] a
  step : {i : ℕ} {bytes text later : List ℕ} {rest : List (List ℕ)} {a b c : Account} → Step i bytes a text b → Steps (suc i) rest b later c → Steps i (bytes ∷ rest) a (text ++ later) c

-- a header of four bytes, of an account that fits
abbrev pub header_fits : Result Header Refusal → Bool
header_fits (Ok h) = account_fits h.account h.fragments h.keys
header_fits (Err r) = false

abbrev pub account_of : Header → Account
account_of h = fresh h.account h.fragments h.keys

-- a refused header and nothing more; or what the entries print, the records and the held count
pub data Prints (header : List ℕ) (entries : List (List ℕ)) : List ℕ → Type 0 where
  unfit : header_fits (header_of header) ≡ false → Prints header entries (open_line (number_of UnfitAccount))
  whole : {h : Header} {text : List ℕ} {b : Account} → header_of header ≡ Ok h → header_fits (Ok h) ≡ true → Steps 0 entries (account_of h) text b → Prints header entries (text ++ account_text b)

-- ---- by the calls

pub data EntriesCalls (number : ℕ) : ℕ → List (List ℕ) → List ℕ → List ℕ → List ℕ → Type 0 where
  nothing : {i : ℕ} {m : List ℕ} → EntriesCalls number i [] m [] m
  entry : {i : ℕ} {bytes text later m m' m'' : List ℕ} {rest : List (List ℕ)} → EntryCalls number i bytes m text m' → EntriesCalls number (suc i) rest m' later m''
      → EntriesCalls number i (bytes ∷ rest) m (text ++ later) m''

-- one lot of memory is started and the header opened; where it is not refused, the entries follow, and put_account
pub data Calls (header : List ℕ) (entries : List (List ℕ)) : List ℕ → Type 0 where
  refused : {m m' m'' : List ℕ} {why : Refused} {r : Result (Unit {0}) Refusal} → length m ≡ SIZE → Started m m' 1 r → HeaderOpened m' m'' (header_of header) (Err why) → Calls header entries (refused_line why)
  opened : {h : Header} {m m' m'' n text out : List ℕ} {r : Result (Unit {0}) Refusal} → length m ≡ SIZE → Started m m' 1 r → HeaderOpened m' m'' (header_of header) (Ok h)
      → EntriesCalls h.account 0 entries m'' text n → out ≡ last_text (named n 1 0 h.account) → Calls header entries (text ++ out)
