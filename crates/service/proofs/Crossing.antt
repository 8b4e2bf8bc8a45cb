-- Bytes are a list that crosses, with odd bytes behind it; what is written at their front is at the front of the list. Assumes nothing.
use Prim.Native.Nat.{ℕ, suc, ◌+◌, ◌*◌, ◌<◌, ◌≤◌}
use mathlib.Core.Path.{◌≡◌, refl, sym, ap, ◌∙◌}
use mathlib.Core.List.{List, ◌++◌, append_assoc}
use native.Mathlib.Nat.{suc-mul, mul-le-mul_right}
use native.Mathlib.Omega.{arith}
use lib.ListN.{length, take, drop, length-drop, take-append-drop}
use lib.Seq.{length-take-le}
use Rattle.wire.specs.Numbers.{number32, bytes32}
use Rattle.model.specs.Image.{each}
use Rattle.model.specs.Decoding.{parse}
use Rattle.model.proofs.Decode.{length_each, drop_each}
use Rattle.lookback.proofs.Places.{length_parse}
use Rattle.judging.proofs.Parts.{Bytes, bytes_drop, each_append, parts_sound, cells, take_cells, thirty_two}
use Rattle.image.specs.Saving.{Written}
use Rattle.overview.specs.declared.Row.{Row}
use Rattle.service.specs.Crossing.{Crossing, row16}

module _ {X : Type 0} (bytes_of : X → List ℕ) (size : ℕ) (long : (x : X) → length (bytes_of x) ≡ size) where
  each_drop : (k : ℕ) (list : List X) (odd : List ℕ) → k ≤ length list → drop (k * size) (each bytes_of list ++ odd) ≡ each bytes_of (drop k list) ++ odd
  each_drop k list odd h =
      let t : length (take k list) ≡ k = length-take-le k list h in
      let both : each bytes_of list ≡ each bytes_of (take k list) ++ each bytes_of (drop k list) = ap (each bytes_of) (sym (take-append-drop k list)) ∙ each_append size bytes_of (take k list) (drop k list) in
      ap (λ l. drop (k * size) (l ++ odd)) both ∙ ap (drop (k * size)) (append_assoc (each bytes_of (take k list)) (each bytes_of (drop k list)) odd)
      ∙ (rw t at (drop_each bytes_of size long (take k list) (each bytes_of (drop k list) ++ odd)))

  -- `dec` reads what `bytes_of` writes; n: how many there are in the bytes b
  module _ (dec : List ℕ → X) (sound : (m : List ℕ) → Bytes m → size ≤ length m → bytes_of (dec m) ≡ take size m) (b : List ℕ) (small : Bytes b) (n : ℕ) (whole : n * size ≤ length b) where
    lent_is : b ≡ each bytes_of (parse n size dec b) ++ drop (n * size) b
    lent_is =
        let each_fits : (i : ℕ) → i < n → size ≤ length (drop (i * size) b) = λ i h. omega (arith, length-drop (i * size) b, suc-mul i size, mul-le-mul_right {m = suc i} {n = n} size h) in
        sym (take-append-drop (n * size) b) ∙ ap (λ l. l ++ drop (n * size) b) (sym (parts_sound size bytes_of dec n b (λ i h. sound (drop (i * size) b) (bytes_drop (i * size) b small) (each_fits i h))))

    pub crosses : {Owed : List X → List X → Type 0} {b' : List ℕ} {e : ℕ} (xs : List X) → length b < n * size + size → length xs ≤ n → Written b b' 0 e (each bytes_of xs)
        → Owed (parse n size dec b) (xs ++ drop (length xs) (parse n size dec b)) → Crossing bytes_of size Owed b b'
    crosses {b' = b'} xs last most w owed =
        let list = parse n size dec b in
        let k = length xs in
        let odd = drop (n * size) b in
        let z : 0 + length (each bytes_of xs) ≡ k * size = omega (arith, length_each bytes_of size long xs) in
        let m : k ≤ length list = omega (arith, length_parse size dec n b) in
        let rest : drop (k * size) b ≡ each bytes_of (drop k list) ++ odd = ap (drop (k * size)) lent_is ∙ each_drop k list odd m in
        let front : b' ≡ each bytes_of xs ++ drop (k * size) b = rw z at w.bytes in
        record {
          list = list;
          list' = xs ++ drop k list;
          odd = odd;
          few = omega (arith, length-drop (n * size) b);
          lent = lent_is;
          owed = owed;
          left = front ∙ ap (λ l. each bytes_of xs ++ l) rest ∙ sym (append_assoc (each bytes_of xs) (each bytes_of (drop k list)) odd) ∙ ap (λ l. l ++ odd) (sym (each_append size bytes_of xs (drop k list)));
        }

-- ---- numbers and rows

abbrev pub number_in : List ℕ → ℕ
number_in m = number32 m 0

abbrev pub row_in : List ℕ → Row
row_in m = record { account = number32 m 0; closed = number32 m 4; held = number32 m 8; damaged = number32 m 12 }

pub number_long : (v : ℕ) → length (bytes32 v) ≡ 4
unfolding bytes32
number_long v = refl

pub row_long : (r : Row) → length (row16 r) ≡ 16
unfolding row16 bytes32
row_long r = refl

pub number_sound : (m : List ℕ) → Bytes m → 4 ≤ length m → bytes32 (number_in m) ≡ take 4 m
unfolding cells
number_sound m b h = rw (take_cells 4 0 m (omega arith), thirty_two m b 0)

pub row_sound : (m : List ℕ) → Bytes m → 16 ≤ length m → row16 (row_in m) ≡ take 16 m
unfolding cells row16
row_sound m b h = rw (take_cells 16 0 m (omega arith), thirty_two m b 0, thirty_two m b 4, thirty_two m b 8, thirty_two m b 12)
