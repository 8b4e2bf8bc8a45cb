-- What the program prints of each call on its one lot, lot 0 of 1, and what each function owes: the memory by the contracts of the calls, and the text that it writes, or the refusal that it answers.
use Rattle.std.specs.Prelude.{ℕ, suc, ◌≡◌, List, [], ◌++◌, ltb, length, get_or, if◌then◌else◌, Result, Ok, Err, Some, None, Option}
use Rattle.wire.specs.Numbers.{number16}
use Rattle.model.specs.Lists.{upward}
use Rattle.model.specs.Account.{Account, held_count, Named, refused, found}
use Rattle.model.specs.Closing.{close, Piece, listed, LEAST_LIST, close_from}
use Rattle.model.specs.Image.{Present, form, each}
use Rattle.model.specs.Answers.{refusal_numbers}
use Rattle.model.specs.declared.Refusal.{Refusal}
use Rattle.model.specs.declared.Refusal.TheVariants.{UnfitAccount}
use Rattle.lot.specs.View.{holds}
use Rattle.lots.specs.Memory.{view_of, OnlyLot, named}
use Rattle.standby.specs.Calls.{open_answer, AccountOpened, deliver_answer, Delivered, read_answer}
use Rattle.lines.specs.Lines.{epoch_line, piece_line, record_line, held_line, entry_line, open_line}
use Rattle.replaying.specs.declared.Header.{Header}
use Rattle.replaying.specs.declared.Refused.{Refused}
use Rattle.replaying.specs.declared.Refused.TheVariants as refused

abbrev pub number_of : Refusal → ℕ
number_of r = (refusal_numbers r).number

-- the line of a refused header, and of a refused entry with its index
abbrev pub refused_line : Refused → List ℕ
refused_line (refused.Header r) = open_line (number_of r)
refused_line (refused.Entry index r) = entry_line index (number_of r)

-- ---- the header: account 2 bytes, f 1, k 1; one under 4 bytes is refused by 15

abbrev pub header_in : List ℕ → Header
header_in bytes = record { account = number16 bytes 0; fragments = get_or bytes 2 0; keys = get_or bytes 3 0 }

unfoldable pub header_of : List ℕ → Result Header Refusal
header_of bytes = if ltb (length bytes) 4 then Err UnfitAccount else Ok (header_in bytes)

-- the same as a header in any case: one of zeros where there are fewer, which fits no account
unfoldable pub header_or_zeros : List ℕ → Header
header_or_zeros bytes = if ltb (length bytes) 4 then record { account = 0; fragments = 0; keys = 0 } else header_in bytes

abbrev pub answer_to : List ℕ → Header → Result ℕ Refusal
answer_to m h = open_answer m 1 h.account h.fragments h.keys

-- the account of a header is opened; a refused one changes nothing
abbrev pub OpenedBy : List ℕ → List ℕ → Result Header Refusal → Type 0
OpenedBy m m' (Ok h) = AccountOpened m m' 1 h.account h.fragments h.keys (answer_to m h)
OpenedBy m m' (Err r) = m' ≡ m

-- the header that is opened, or its refusal
abbrev pub open_told : Header → Result ℕ Refusal → Result Header Refused
open_told h (Ok lot) = Ok h
open_told h (Err r) = Err (refused.Header r)

abbrev pub header_told : List ℕ → Result Header Refusal → Result Header Refused
header_told m (Ok h) = open_told h (answer_to m h)
header_told m (Err r) = Err (refused.Header r)

pub record HeaderOpened (m m' : List ℕ) (header : Result Header Refusal) (out : Result Header Refused) : Type 0 where
  pub opened : OpenedBy m m' header
  pub told : out ≡ header_told m header

-- ---- an entry: the refusal of a refused one has its index

abbrev pub entry_told : ℕ → Result (Unit {0}) Refusal → Result (Unit {0}) Refused
entry_told index (Ok tt) = Ok tt
entry_told index (Err r) = Err (refused.Entry index r)

pub record EntryDelivered (m m' : List ℕ) (number index : ℕ) (bytes : List ℕ) (out : Result (Unit {0}) Refused) : Type 0 where
  pub delivered : Delivered m m' 1 0 number bytes (deliver_answer m 1 0 number bytes)
  pub told : out ≡ entry_told index (deliver_answer m 1 0 number bytes)

-- ---- a close: the epoch with the count of its pieces, and its pieces in the order of the list

abbrev pub piece_text : Piece → List ℕ
piece_text p = piece_line p.fragment p.transaction

unfoldable pub closed_text : Account → List ℕ
closed_text a = epoch_line (suc a.closed) (length (listed a)) ++ each piece_text (listed a)

-- what the close of the program is answered, with room for every piece in its list
abbrev pub close_answer : List ℕ → ℕ → Result ℕ Refusal
close_answer m number = close_from (named m 1 0 number) LEAST_LIST

abbrev pub close_text : Result ℕ Refusal → Named → Option (List ℕ)
close_text (Err r) n = None
close_text (Ok count) (found a) = Some (closed_text a)
close_text (Ok count) (refused r) = None

-- the epoch of the lot's account is closed, and nothing else has changed; a refusal changes nothing
abbrev pub LotClosed : List ℕ → List ℕ → Result ℕ Refusal → Type 0
LotClosed m m' (Ok count) = OnlyLot 0 m m' × ((a : Account) → view_of m 0 ≡ holds a → view_of m' 0 ≡ holds (close a))
LotClosed m m' (Err r) = m' ≡ m

pub record NextClosed (m m' : List ℕ) (number : ℕ) (out : Option (List ℕ)) : Type 0 where
  pub closed : LotClosed m m' (close_answer m number)
  pub printed : out ≡ close_text (close_answer m number) (named m 1 0 number)

-- the text of a close that is told, and none where none is
abbrev pub text_told : Option (Unit {0}) → List ℕ → Option (List ℕ)
text_told (Some tt) text = Some text
text_told None text = None

-- a pair of the list, as a line
abbrev pub pair_text : List ℕ → List ℕ
pair_text pair = piece_line (get_or pair 0 0) (get_or pair 1 0)

-- ---- at the end: each present record, by fragment, then key; the held count

abbrev pub record_text : Present → List ℕ
record_text r = record_line r.fragment r.key r.value

unfoldable pub account_text : Account → List ℕ
account_text a = each record_text (form a).records ++ held_line (held_count a)

abbrev pub last_text : Named → List ℕ
last_text (found a) = account_text a
last_text (refused why) = []

-- what is printed of one read, and of those of one fragment and of all
abbrev pub found_text : ℕ → ℕ → Result (Option ℕ) Refusal → List ℕ
found_text fragment key (Ok (Some value)) = record_line fragment key value
found_text fragment key (Ok None) = []
found_text fragment key (Err r) = []

unfoldable pub fragment_text : List ℕ → ℕ → ℕ → ℕ → List ℕ
fragment_text m number fragment keys = upward keys 0 (λ k. found_text fragment k (read_answer m 1 0 number fragment k))

unfoldable pub records_text : List ℕ → ℕ → ℕ → ℕ → List ℕ
records_text m number fragments keys = upward fragments 0 (λ i. fragment_text m number i keys)
