-- The 16-byte entry: its kinds, its fields, and what refusals 5 and 6 ask of them.
use Rattle.std.specs.Prelude.{ℕ, Bool, not, ◌&&◌, ◌||◌, List, [], ◌∷◌, leb, ltb, eqb, get_or}
use Rattle.wire.specs.Numbers.{number16, number32}
use Rattle.model.specs.Lists.{every}
use Rattle.model.specs.declared.Entry.{Entry}

-- ---- kinds and limits

abbrev pub PUT : ℕ
PUT = 1

abbrev pub DELETE : ℕ
DELETE = 2

abbrev pub P : ℕ
P = 3

abbrev pub CC : ℕ
CC = 4

abbrev pub CP : ℕ
CP = 5

abbrev pub A : ℕ
A = 6

abbrev pub MARK : ℕ
MARK = 7

abbrev pub LENGTH : ℕ
LENGTH = 16

abbrev pub LAST_MARK : ℕ
LAST_MARK = 4294967294

-- ---- fields

-- byte 0 kind; 1 fragment; 2-3 sequence number; 4-7 transaction (for a mark: its epoch); 8-9 key or coordinator; 10-11 zero; 12-15 value
unfoldable pub entry_of : List ℕ → Entry
entry_of b = record {
  kind = get_or b 0 0;
  fragment = get_or b 1 0;
  sequence = number16 b 2;
  transaction = number32 b 4;
  argument = number16 b 8;
  spare = number16 b 10;
  value = number32 b 12;
}

abbrev pub is_mark : Entry → Bool
is_mark e = eqb e.kind MARK

-- ---- refusal 5: kind, unused byte, transaction 0, or mark number unfit

-- of an entry but for bytes 10 and 11: bytes 8-9 serve kinds 1 to 3, bytes 12-15 kind 1
unfoldable pub fields_fit : ℕ → ℕ → ℕ → ℕ → Bool
fields_fit kind transaction argument value =
    every (
    leb PUT kind ∷ leb kind MARK
    ∷ (leb kind P || eqb argument 0)
    ∷ (eqb kind PUT || eqb value 0)
    ∷ leb 1 transaction
    ∷ (not (eqb kind MARK) || leb transaction LAST_MARK)
    ∷ []
    )

unfoldable pub fits : Entry → Bool
fits e = eqb e.spare 0 && fields_fit e.kind e.transaction e.argument e.value

-- ---- refusal 6: fragment, key or coordinator outside the account of f fragments and k keys, or coordinator = own fragment

unfoldable pub in_account : ℕ → ℕ → ℕ → ℕ → ℕ → Bool
in_account f k kind fragment argument =
    every (
    ltb fragment f
    ∷ (ltb DELETE kind || ltb argument k)
    ∷ (not (eqb kind P) || ltb argument f)
    ∷ (not (eqb kind P) || not (eqb argument fragment))
    ∷ []
    )

unfoldable pub inside : ℕ → ℕ → Entry → Bool
inside f k e = in_account f k e.kind e.fragment e.argument
