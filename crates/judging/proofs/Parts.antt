-- Parts of so many bytes each: where each part is written as it is read, the whole is; and what is written so passes. Assumes nothing.
use Prim.Native.Nat.{ℕ, zero, suc, ◌+◌, ◌*◌, ◌/◌, ◌%◌, ◌<◌, ◌≤◌}
use mathlib.Core.Path.{◌≡◌, refl, sym, ap, ◌∙◌}
use mathlib.Core.Bool.{Bool, true, false}
use mathlib.Core.List.{List, [], ◌∷◌, ◌++◌, append_assoc, append-nil}
use native.Mathlib.Omega.{arith}
use native.Mathlib.Nat.{suc-mul}
use lib.Dec.{eqb, leb}
use lib.ListN.{length, get_or, take, drop, length-drop}
use lib.Seq.{drop-cons, get_or-drop, take-add, drop_at, drop-drop}
use borrow.Author.Tests.{eqb-true, leb-true}
use Rattle.wire.specs.Numbers.{number16, number32, bytes16, bytes32}
use Rattle.model.specs.Lists.{every, upward, one}
use Rattle.model.specs.Image.{Present, Item, stream8, record8, held20, each}
use Rattle.model.specs.Decoding.{counters_of, present_of, item_of, parse}
use Rattle.model.specs.Section.{plain_place, plain}
use Rattle.model.specs.declared.Counters.{Counters}
use Rattle.model.proofs.Tests.{nth, and}
use Rattle.model.proofs.Buckets.{singles}
use Rattle.model.proofs.Decode.{stream_long, record_long, item_long}
use Rattle.lookback.proofs.Places.{get_or_parse, parse_more, number16_drop}

-- every element is a byte, as a slice's is
abbrev pub Bytes : List ℕ → Type 0
Bytes l = (i : ℕ) → get_or l i 0 < 256

pub bytes_drop : (n : ℕ) (l : List ℕ) → Bytes l → Bytes (drop n l)
bytes_drop n l b = λ j. rw (get_or-drop n l j 0) (b (n + j))

-- ---- any parts

module _ {X : Type 0} (size : ℕ) (enc : X → List ℕ) where
  pub each_append : (xs ys : List X) → each enc (xs ++ ys) ≡ each enc xs ++ each enc ys
  unfolding each
  each_append [] ys = refl
  each_append (x ∷ xs) ys = rw (each_append xs ys) (sym (append_assoc (enc x) (each enc xs) (each enc ys)))

  pub parts_sound : (dec : List ℕ → X) (n : ℕ) (l : List ℕ) → ((i : ℕ) → i < n → enc (dec (drop (i * size) l)) ≡ take size (drop (i * size) l)) → each enc (parse n size dec l) ≡ take (n * size) l
  unfolding each parse
  parts_sound dec zero l w = let z : 0 * size ≡ 0 = omega arith in rw z
  parts_sound dec (suc n) l w =
      let z : suc n * size ≡ n * size + size = omega (arith, suc-mul n size) in
      ap (each enc) (parse_more size dec n l) ∙ each_append (parse n size dec l) (dec (drop (n * size) l) ∷ [])
      ∙ rw (parts_sound dec n l (λ i h. w i (omega arith)), w n (omega arith), append-nil (take size (drop (n * size) l)), z) (sym (take-add (n * size) size l))

  -- what holds of each written part, with more behind it, holds of the parts of what is written
  parts_pass : ((x : X) → length (enc x) ≡ size) → (P : List ℕ → Type 0) → ((x : X) (more : List ℕ) → P (enc x ++ more)) → (xs : List X) (rest : List ℕ) (i : ℕ) → i < length xs → P (drop (i * size) (each enc xs ++ rest))
  unfolding each
  parts_pass long P w [] rest i h = absurd (omega arith)
  parts_pass long P w (x ∷ xs) rest zero h = let z : 0 * size ≡ 0 = omega arith in rw (z, append_assoc (enc x) (each enc xs) rest) (w x (each enc xs ++ rest))
  parts_pass long P w (x ∷ xs) rest (suc i) h =
      let z : suc i * size ≡ size + i * size = omega (arith, suc-mul i size) in
      rw (z, ← drop-drop (i * size) size (enc x ++ each enc xs ++ rest), append_assoc (enc x) (each enc xs) rest, drop_at (enc x) (each enc xs ++ rest) size (long x)) (parts_pass long P w xs rest i (omega arith))

-- one part more
pub upward_more : {X : Type 0} (c n : ℕ) (p : ℕ → List X) → upward (suc c) n p ≡ upward c n p ++ p (n + c)
unfolding upward
upward_more zero n p = let z : n + 0 ≡ n = omega arith in rw z (append-nil (p n))
upward_more (suc c) n p = let z : n + suc c ≡ suc n + c = omega arith in rw z (ap (λ xs. p n ++ xs) (upward_more c (suc n) p) ∙ sym (append_assoc (p n) (upward c (suc n) p) (p (suc n + c))))

pub parse_singles : {X : Type 0} (size : ℕ) (dec : List ℕ → X) (n : ℕ) (l : List ℕ) → parse n size dec l ≡ singles (λ i. dec (drop (i * size) l)) n 0
unfolding parse upward
parse_singles size dec zero l = refl
parse_singles size dec (suc n) l =
    let z : 0 + n ≡ n = omega arith in
    parse_more size dec n l ∙ ap (λ xs. xs ++ dec (drop (n * size) l) ∷ []) (parse_singles size dec n l) ∙ sym (rw z at (upward_more n 0 (λ i. dec (drop (i * size) l) ∷ [])))

every_parse : (size : ℕ) (p : List ℕ → Bool) (n : ℕ) (l : List ℕ) → ((i : ℕ) → i < n → p (drop (i * size) l) ≡ true) → every (parse n size p l) ≡ true
unfolding every parse
every_parse size p zero l w = refl
every_parse size p (suc n) l w =
    let z : 0 * size ≡ 0 = omega arith in
    and (rw z at (w 0 (omega arith)))
    (every_parse size p n (drop size l) (λ i h. let e : size + i * size ≡ suc i * size = omega (arith, suc-mul i size) in rw (drop-drop (i * size) size l, e) (w (suc i) (omega arith))))

-- ---- the bytes of a stream, a record and a held entry

unfoldable pub cells : ℕ → ℕ → List ℕ → List ℕ
cells zero j m = []
cells (suc n) j m = get_or m j 0 ∷ cells n (suc j) m

pub take_cells : (n j : ℕ) (m : List ℕ) → j + n ≤ length m → take n (drop j m) ≡ cells n j m
unfolding cells
take_cells zero j m h = refl
take_cells (suc n) j m h =
    let u : j < length m = omega arith in
    rw (drop-cons m j 0 u, take_cells n (suc j) m (omega arith))

bytes_number16 : (a b : ℕ) → a < 256 → bytes16 (a + 256 * b) ≡ a ∷ b ∷ []
unfolding bytes16
bytes_number16 a b h = let p : (a + 256 * b) % 256 ≡ a = omega arith in let q : (a + 256 * b) / 256 ≡ b = omega arith in rw (p, q)

module _ (a b c d : ℕ) (ha : a < 256) (hb : b < 256) (hc : c < 256) where
  abbrev number : ℕ
  number = a + 256 * b + 65536 * c + 16777216 * d

  byte0 : number % 256 ≡ a
  byte0 = omega arith

  byte1 : number / 256 % 256 ≡ b
  byte1 = omega arith

  byte2 : number / 65536 % 256 ≡ c
  byte2 = omega arith

  byte3 : number / 16777216 ≡ d
  byte3 = omega arith

  bytes_number32 : bytes32 number ≡ a ∷ b ∷ c ∷ d ∷ []
  unfolding bytes32
  bytes_number32 = λ t. byte0 t ∷ byte1 t ∷ byte2 t ∷ byte3 t ∷ []

module _ (m : List ℕ) (b : Bytes m) where
  -- the bytes of the number at i
  pub sixteen : (i : ℕ) → bytes16 (number16 m i) ≡ get_or m i 0 ∷ get_or m (i + 1) 0 ∷ []
  unfolding number16
  sixteen i = bytes_number16 (get_or m i 0) (get_or m (i + 1) 0) (b i)

  pub thirty_two : (i : ℕ) → bytes32 (number32 m i) ≡ get_or m i 0 ∷ get_or m (i + 1) 0 ∷ get_or m (i + 2) 0 ∷ get_or m (i + 3) 0 ∷ []
  unfolding number32
  thirty_two i = bytes_number32 (get_or m i 0) (get_or m (i + 1) 0) (get_or m (i + 2) 0) (get_or m (i + 3) 0) (b i) (b (i + 1)) (b (i + 2))

  pub zeros : (i : ℕ) → number16 m i ≡ 0 → (get_or m i 0 ≡ 0) × (get_or m (i + 1) 0 ≡ 0)
  unfolding number16
  zeros i e = (omega arith, omega arith)

  stream_cells : 8 ≤ length m → number16 m 2 ≡ 0 → stream8 (counters_of m) ≡ take 8 m
  unfolding stream8 counters_of cells
  stream_cells h z = rw (take_cells 8 0 m (omega arith), sixteen 0, thirty_two 4, (zeros 2 z).0, (zeros 2 z).1)

  record_cells : 8 ≤ length m → get_or m 1 0 ≡ 0 → record8 (present_of m) ≡ take 8 m
  unfolding record8 present_of cells
  record_cells h z = rw (take_cells 8 0 m (omega arith), sixteen 2, thirty_two 4, z)

  flag_back : (x : ℕ) → leb x 1 ≡ true → one (eqb x 1) ≡ x
  flag_back zero h = refl
  flag_back (suc zero) h = refl
  flag_back (suc (suc x)) h = absurd (omega (arith, leb-true (suc (suc x)) 1 h))

  held_cells : 20 ≤ length m → plain_place m ≡ true → held20 (item_of m) ≡ take 20 m
  unfolding held20 item_of cells plain_place
  held_cells h w =
      let n = nth _ w in
      rw (take_cells 20 0 m (omega arith), thirty_two 4, sixteen 8, thirty_two 12, thirty_two 16, eqb-true (get_or m 2 0) 0 (n 0), eqb-true (get_or m 3 0) 0 (n 1), eqb-true (get_or m 10 0) 0 (n 2), flag_back (get_or m 11 0) (n 3))

bit : (b : Bool) → leb (one b) 1 ≡ true
bit true = refl
bit false = refl

place_plain : (e : Item) (more : List ℕ) → plain_place (held20 e ++ more) ≡ true
unfolding plain_place held20 bytes16 bytes32 every
place_plain e more = rw (bit e.entry.flagged)

-- ---- the sections

module _ (n : ℕ) (l : List ℕ) (b : Bytes l) where
  pub streams_sound : n * 8 ≤ length l → ((i : ℕ) → i < n → number16 l (i * 8 + 2) ≡ 0) → each stream8 (parse n 8 counters_of l) ≡ take (n * 8) l
  streams_sound h w = parts_sound 8 stream8 counters_of n l (λ i u. stream_cells (drop (i * 8) l) (bytes_drop (i * 8) l b) (omega (arith, length-drop (i * 8) l)) (number16_drop (i * 8) l 2 ∙ w i u))

  pub records_sound : n * 8 ≤ length l → ((i : ℕ) → i < n → get_or l (i * 8 + 1) 0 ≡ 0) → each record8 (parse n 8 present_of l) ≡ take (n * 8) l
  records_sound h w = parts_sound 8 record8 present_of n l (λ i u. record_cells (drop (i * 8) l) (bytes_drop (i * 8) l b) (omega (arith, length-drop (i * 8) l)) (get_or-drop (i * 8) l 1 0 ∙ w i u))

  pub held_sound : n * 20 ≤ length l → plain n l ≡ true → each held20 (parse n 20 item_of l) ≡ take (n * 20) l
  held_sound h w = parts_sound 20 held20 item_of n l (λ i u. held_cells (drop (i * 20) l) (bytes_drop (i * 20) l b) (omega (arith, length-drop (i * 20) l)) (sym (get_or_parse 20 plain_place true n l i u) ∙ nth _ w i))

module _ (rest : List ℕ) where
  pub streams_plain : (ss : List Counters) (i : ℕ) → i < length ss → number16 (each stream8 ss ++ rest) (i * 8 + 2) ≡ 0
  unfolding stream8 bytes16 number16
  streams_plain ss i h = sym (number16_drop (i * 8) (each stream8 ss ++ rest) 2) ∙ parts_pass 8 stream8 stream_long (λ m. number16 m 2 ≡ 0) (λ s more. refl) ss rest i h

  pub records_plain : (rs : List Present) (i : ℕ) → i < length rs → get_or (each record8 rs ++ rest) (i * 8 + 1) 0 ≡ 0
  unfolding record8
  records_plain rs i h = sym (get_or-drop (i * 8) (each record8 rs ++ rest) 1 0) ∙ parts_pass 8 record8 record_long (λ m. get_or m 1 0 ≡ 0) (λ r more. refl) rs rest i h

  pub held_plain : (es : List Item) → plain (length es) (each held20 es ++ rest) ≡ true
  held_plain es = every_parse 20 plain_place (length es) (each held20 es ++ rest) (parts_pass 20 held20 item_long (λ m. plain_place m ≡ true) place_plain es rest)
