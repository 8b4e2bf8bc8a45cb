-- The image determines what it shows, and where it begins: `decode` finds it at the end of any data. Assumes nothing.
use Prim.Native.Nat.{ℕ, ◌+◌, ◌*◌, ◌-◌, ◌/◌, ◌%◌, ◌≤◌}
use mathlib.Core.Path.{◌≡◌, refl, sym, ◌∙◌}
use mathlib.Core.Bool.{Bool, true, false}
use mathlib.Core.List.{List, [], ◌∷◌, ◌++◌, append_assoc}
use native.Mathlib.Omega.{arith}
use native.Mathlib.Nat.{suc-mul}
use lib.ListN.{length, get_or, drop, length-append}
use lib.Seq.{drop_at, drop-append-add}
use lib.Dec.{eqb}
use Rattle.wire.specs.Numbers.{number16, number32, bytes16, bytes32}
use Rattle.model.specs.Lists.{one}
use Rattle.model.specs.Image.{Present, Item, Form, stream8, record8, held20, each, trailer24, body, bytes}
use Rattle.model.specs.Decoding.{counters_of, present_of, item_of, parse, last_of, decode_with, decode}
use Rattle.model.specs.declared.Counters.{Counters}

two : (v : ℕ) → v % 256 + 256 * (v / 256) ≡ v
two v = omega arith

four : (v : ℕ) → v % 256 + 256 * (v / 256 % 256) + 65536 * (v / 65536 % 256) + 16777216 * (v / 16777216) ≡ v
four v = omega arith

pub stream_back : (s : Counters) (more : List ℕ) → counters_of (stream8 s ++ more) ≡ s
unfolding counters_of stream8 bytes16 bytes32 number16 number32
stream_back s more = λ i. record { next = two s.next i; epoch = four s.epoch i }

pub record_back : (r : Present) (more : List ℕ) → present_of (record8 r ++ more) ≡ r
unfolding present_of record8 bytes16 bytes32 number16 number32
record_back r more = λ i. record { fragment = r.fragment; key = two r.key i; value = four r.value i }

bit_back : (b : Bool) → eqb (one b) 1 ≡ b
bit_back true = refl
bit_back false = refl

pub item_back : (e : Item) (more : List ℕ) → item_of (held20 e ++ more) ≡ e
unfolding item_of held20 bytes16 bytes32 number16 number32
item_back e more =
    let h = e.entry in
    λ i. record {
      stream = e.stream;
      entry = record { kind = h.kind; transaction = four h.transaction i; argument = two h.argument i; value = four h.value i; flagged = bit_back h.flagged i; epoch = four h.epoch i };
    }

module _ {X : Type 0} (enc : X → List ℕ) (size : ℕ) (long : (x : X) → length (enc x) ≡ size) where
  pub length_each : (xs : List X) → length (each enc xs) ≡ length xs * size
  unfolding each
  length_each [] = omega arith
  length_each (x ∷ xs) = length-append (enc x) (each enc xs) ∙ rw (long x, length_each xs) (omega (arith, suc-mul (length xs) size))

  pub drop_each : (xs : List X) (rest : List ℕ) → drop (length xs * size) (each enc xs ++ rest) ≡ rest
  drop_each xs rest = drop_at (each enc xs) rest (length xs * size) (length_each xs)

  module _ (dec : List ℕ → X) (back : (x : X) (more : List ℕ) → dec (enc x ++ more) ≡ x) where
    pub parse_each : (xs : List X) (rest : List ℕ) → parse (length xs) size dec (each enc xs ++ rest) ≡ xs
    unfolding parse each
    parse_each [] rest = refl
    parse_each (x ∷ xs) rest =
        rw (append_assoc (enc x) (each enc xs) rest, drop_at (enc x) (each enc xs ++ rest) size (long x), back x (each enc xs ++ rest), parse_each xs rest)

pub stream_long : (s : Counters) → length (stream8 s) ≡ 8
unfolding stream8 bytes16 bytes32
stream_long s = refl

pub record_long : (r : Present) → length (record8 r) ≡ 8
unfolding record8 bytes16 bytes32
record_long r = refl

pub item_long : (e : Item) → length (held20 e) ≡ 20
unfolding held20 bytes16 bytes32
item_long e = refl

pub trailer_long : (x : Form) (n : ℕ) → length (trailer24 x n) ≡ 24
unfolding trailer24 bytes16 bytes32
trailer_long x n = refl

pub length_bytes : (x : Form) → length (bytes x) ≡ length (body x) + 24
unfolding bytes
length_bytes x = length-append (body x) _ ∙ rw trailer_long

pub length_form : (x : Form) → length (bytes x) ≡ length x.streams * 8 + length x.records * 8 + length x.held * 20 + 24
unfolding body
length_form x =
    let s = each stream8 x.streams in
    let r = each record8 x.records in
    let h = each held20 x.held in
    omega (
      arith,
      length_bytes x,
      length-append s (r ++ h),
      length-append r h,
      length_each stream8 8 stream_long x.streams,
      length_each record8 8 record_long x.records,
      length_each held20 20 item_long x.held,
    )

pub last_append : (p q : List ℕ) (n : ℕ) → n ≤ length q → last_of n (p ++ q) ≡ last_of n q
unfolding last_of
last_append p q n h = let z : length (p ++ q) - n ≡ length p + (length q - n) = omega (arith, length-append p q) in rw z (drop-append-add p q (length q - n))

pub last_of_law : (p q : List ℕ) (n : ℕ) → length q ≡ n → last_of n (p ++ q) ≡ q
unfolding last_of
last_of_law p q n h = drop_at p q (length (p ++ q) - n) (omega (arith, length-append p q))

-- ---- the trailer's fields

module _ (x : Form) (n : ℕ) where
  t_number : number16 (trailer24 x n) 0 ≡ x.number
  unfolding trailer24 bytes16 bytes32 number16
  t_number = two x.number

  pub t_size : get_or (trailer24 x n) 2 0 ≡ length x.streams
  unfolding trailer24 bytes16
  t_size = refl

  t_keys : number16 (trailer24 x n) 4 ≡ x.keys
  unfolding trailer24 bytes16 bytes32 number16
  t_keys = two x.keys

  pub t_records : number16 (trailer24 x n) 6 ≡ length x.records
  unfolding trailer24 bytes16 bytes32 number16
  t_records = two (length x.records)

  pub t_held : number16 (trailer24 x n) 8 ≡ length x.held
  unfolding trailer24 bytes16 bytes32 number16
  t_held = two (length x.held)

  t_closed : number32 (trailer24 x n) 12 ≡ x.closed
  unfolding trailer24 bytes16 bytes32 number32
  t_closed = four x.closed

  pub t_long : number32 (trailer24 x n) 16 ≡ n
  unfolding trailer24 bytes16 bytes32 number32
  t_long = four n

module _ (x : Form) (t : List ℕ) where
  streams_back : parse (length x.streams) 8 counters_of (body x ++ t) ≡ x.streams
  unfolding body
  streams_back = rw (append_assoc (each stream8 x.streams) (each record8 x.records ++ each held20 x.held) t) (parse_each stream8 8 stream_long counters_of stream_back x.streams _)

  pub past_streams : drop (length x.streams * 8) (body x ++ t) ≡ each record8 x.records ++ (each held20 x.held ++ t)
  unfolding body
  past_streams =
      rw (append_assoc (each stream8 x.streams) (each record8 x.records ++ each held20 x.held) t, append_assoc (each record8 x.records) (each held20 x.held) t)
      (drop_each stream8 8 stream_long x.streams _)

  pub with_trailer : (n : ℕ) → decode_with (trailer24 x n) (body x ++ t) ≡ x
  unfolding decode_with
  with_trailer n =
      rw (
        t_number x n,
        t_size x n,
        t_keys x n,
        t_records x n,
        t_held x n,
        t_closed x n,
        streams_back,
        past_streams,
        parse_each record8 8 record_long present_of record_back x.records (each held20 x.held ++ t),
        drop_each record8 8 record_long x.records (each held20 x.held ++ t),
        parse_each held20 20 item_long item_of item_back x.held t,
      )

-- ---- at the end of any data

module _ (front : List ℕ) (x : Form) where
  pub trailer_last : last_of 24 (front ++ bytes x) ≡ trailer24 x (length (body x) + 24)
  unfolding bytes
  trailer_last = let t = trailer24 x (length (body x) + 24) in rw (← append_assoc front (body x) t) (last_of_law (front ++ body x) t 24 (trailer_long x (length (body x) + 24)))

  pub says_length : number32 (last_of 24 (front ++ bytes x)) 16 ≡ length (bytes x)
  says_length = rw trailer_last (t_long x (length (body x) + 24) ∙ sym (length_bytes x))

  pub decode_bytes : decode (front ++ bytes x) ≡ x
  unfolding decode bytes
  decode_bytes = rw (trailer_last, t_long x (length (body x) + 24), last_of_law front (bytes x) (length (body x) + 24) (length_bytes x)) (with_trailer x (trailer24 x (length (body x) + 24)) (length (body x) + 24))
