-- A section that is lent as a part of its lot: what is left of the others. Assumes nothing.
use Prim.Native.Nat.{ℕ, ◌+◌, ◌-◌, ◌≤◌}
use mathlib.Core.Path.{◌≡◌, sym, ap, ◌∙◌}
use mathlib.Core.List.{List, ◌++◌, append_assoc, append-nil}
use native.Mathlib.Omega.{arith}
use lib.ListN.{length, take, drop, length-append, length-drop, take-append-drop, drop_of_length-le}
use lib.Seq.{length-take-le, take-append-le, drop-append-le, drop-drop, take_at, drop_at}
use Rattle.lot.specs.Layout.{SIZE}
use Rattle.writes.specs.Sections.{WithHead, WithStreams, WithPlaces, WithRecords}

-- n bytes from index a on are lent, and q is what they are left as
module _ (l q : List ℕ) (a n : ℕ) (room : a + n ≤ length l) (whole : length q ≡ n) where
  abbrev pub left : List ℕ
  left = take a l ++ (q ++ drop n (drop a l))

  front : length (take a l) ≡ a
  front = length-take-le a l (omega arith)

  pub own : take n (drop a left) ≡ q
  own = rw (drop_at (take a l) (q ++ drop n (drop a l)) a front) (take_at q (drop n (drop a l)) n whole)

  last : a + n ≡ length l → drop a left ≡ q
  last e = drop_at (take a l) (q ++ drop n (drop a l)) a front ∙ rw (drop_of_length-le (drop a l) {i = n} (omega (arith, length-drop a l))) (append-nil q)

  pub before : (x y : ℕ) → y + x ≤ a → take x (drop y left) ≡ take x (drop y l)
  before x y h =
      let cut : (t : List ℕ) → take x (drop y (take a l ++ t)) ≡ take x (drop y (take a l)) = λ t.
      ap (take x) (drop-append-le y (take a l) t (omega (arith, front))) ∙ take-append-le x (drop y (take a l)) t (omega (arith, front, length-drop y (take a l))) in
      cut (q ++ drop n (drop a l)) ∙ sym (cut (drop a l)) ∙ rw (take-append-drop a l)

  pub after : (y : ℕ) → a + n ≤ y → drop y left ≡ drop y l
  after y h =
      let e : a + n + (y - (a + n)) ≡ y = omega arith in
      let d : drop (a + n) left ≡ drop (a + n) l =
      rw (← append_assoc (take a l) q (drop n (drop a l))) (drop_at (take a l ++ q) (drop n (drop a l)) (a + n) (length-append (take a l) q ∙ rw (front, whole)) ∙ drop-drop n a l) in
      let split : (m : List ℕ) → drop (y - (a + n)) (drop (a + n) m) ≡ drop y m = λ m. drop-drop (y - (a + n)) (a + n) m ∙ rw e in
      sym (split left) ∙ ap (drop (y - (a + n))) d ∙ split l

module _ (l q : List ℕ) (size : length l ≡ SIZE) where
  pub head_lent : length q ≡ 16 → WithHead l (q ++ drop 16 l) q
  head_lent w =
      let f = after l q 0 16 (omega arith) w in
      record { head = own l q 0 16 (omega arith) w; streams = ap (take 64) (f 16 (omega arith)); places = ap (take 5120) (f 80 (omega arith)); records = f 5200 (omega arith) }

  pub streams_lent : length q ≡ 64 → WithStreams l (take 16 l ++ (q ++ drop 64 (drop 16 l))) q
  streams_lent w =
      let f = after l q 16 64 (omega arith) w in
      record { head = before l q 16 64 (omega arith) w 16 0 (omega arith); streams = own l q 16 64 (omega arith) w; places = ap (take 5120) (f 80 (omega arith)); records = f 5200 (omega arith) }

  pub streams_set : {s : List ℕ} → length q ≡ 64 → q ≡ s → WithStreams l (take 16 l ++ (q ++ drop 64 (drop 16 l))) s
  streams_set w e = rw (← e) (streams_lent w)

  pub places_lent : length q ≡ 5120 → WithPlaces l (take 80 l ++ (q ++ drop 5120 (drop 80 l))) q
  places_lent w =
      let b = before l q 80 5120 (omega arith) w in
      record { head = b 16 0 (omega arith); streams = b 64 16 (omega arith); places = own l q 80 5120 (omega arith) w; records = after l q 80 5120 (omega arith) w 5200 (omega arith) }

  pub records_lent : length q ≡ 5120 → WithRecords l (take 5200 l ++ (q ++ drop 5120 (drop 5200 l))) q
  records_lent w =
      let b = before l q 5200 5120 (omega arith) w in
      record { head = b 16 0 (omega arith); streams = b 64 16 (omega arith); places = b 5120 80 (omega arith); records = last l q 5200 5120 (omega arith) w (omega arith) }
