-- Numbers and rows written one after the other in lent bytes. Assumes nothing.
use Prim.Native.Nat.{ℕ, suc, ◌+◌, ◌*◌, ◌<◌, ◌≤◌}
use mathlib.Core.Path.{◌≡◌, refl, sym, ◌∙◌}
use mathlib.Core.List.{List, [], ◌∷◌, ◌++◌, append-nil, append_assoc}
use native.Mathlib.Numerals.{add-one}
use native.Mathlib.Omega.{arith}
use lib.ListN.{length, get_or, take, drop}
use lib.Seq.{sets-eq, take-suc}
use Rattle.wire.specs.Numbers.{with32, bytes32}
use Rattle.wire.specs.Laws.{length_put32}
use Rattle.model.specs.Image.{each}
use Rattle.judging.proofs.Parts.{each_append, upward_more}
use Rattle.image.specs.Saving.{Written}
use Rattle.image.proofs.Writing.{write_none, write_more}
use Rattle.overview.specs.Overview.{row_at}
use Rattle.overview.specs.declared.Row.{Row}
use Rattle.service.specs.Crossing.{row16}
use Rattle.service.specs.Writing.{rows_at}

-- ---- one number, one row

pub number_written : (l : List ℕ) (at end v : ℕ) → at + 4 ≤ length l → at + 4 ≡ end → Written l (with32 l at v) at end (bytes32 v)
unfolding with32 bytes32
number_written l at end v h e =
    let one : at + 1 ≡ suc at = omega arith in
    let two : at + 2 ≡ suc (suc at) = omega arith in
    let three : at + 3 ≡ suc (suc (suc at)) = omega arith in
    record { bytes = rw (one, two, three) (sets-eq (bytes32 v) l at h ∙ append_assoc (take at l) (bytes32 v) (drop (at + 4) l)); behind = sym e }

pub row_written : (l : List ℕ) (at : ℕ) (r : Row) → at + 16 ≤ length l
    → Written l (with32 (with32 (with32 (with32 l at r.account) (at + 4) r.closed) (at + 8) r.held) (at + 12) r.damaged) at (at + 16) (row16 r)
unfolding row16
row_written l at r h =
    let l1 = with32 l at r.account in
    let l2 = with32 l1 (at + 4) r.closed in
    let l3 = with32 l2 (at + 8) r.held in
    let n1 : length l1 ≡ length l = length_put32 l at r.account in
    let n2 : length l2 ≡ length l = length_put32 l1 (at + 4) r.closed ∙ n1 in
    let n3 : length l3 ≡ length l = length_put32 l2 (at + 8) r.held ∙ n2 in
    write_more l at (omega arith) (number_written l at (at + 4) r.account (omega arith) refl)
    (write_more l1 (at + 4) (omega arith) (number_written l1 (at + 4) (at + 8) r.closed (omega arith) (omega arith))
    (write_more l2 (at + 8) (omega arith) (number_written l2 (at + 8) (at + 12) r.held (omega arith) (omega arith))
    (number_written l3 (at + 12) (at + 16) r.damaged (omega arith) (omega arith))))

-- ---- none of a list, and one more

pub none_yet : {X : Type 0} (bytes_of : X → List ℕ) (b : List ℕ) → Written b b 0 0 (each bytes_of [])
unfolding each
none_yet bytes_of b = write_none b 0 (omega arith)

module _ {X : Type 0} (bytes_of : X → List ℕ) {b b' b'' : List ℕ} {e e' : ℕ} (xs : List X) (x : X) where
  pub one_more_law : Written b b' 0 e (each bytes_of xs) → Written b' b'' e e' (bytes_of x) → Written b b'' 0 e' (each bytes_of (xs ++ x ∷ []))
  unfolding each
  one_more_law v w = rw (each_append 0 bytes_of xs (x ∷ []), append-nil (bytes_of x)) (write_more b 0 (omega arith) v w)

pub number_more : (numbers : List ℕ) (i : ℕ) {b b' : List ℕ} → i < length numbers → i * 4 + 4 ≤ length b' → Written b b' 0 (i * 4) (each bytes32 (take i numbers))
    → Written b (with32 b' (i * 4) (get_or numbers i 0)) 0 ((i + 1) * 4) (each bytes32 (take (i + 1) numbers))
number_more numbers i {b' = b'} h room w =
    rw (add-one i, take-suc numbers i 0 h, ← add-one i) (one_more_law bytes32 (take i numbers) (get_or numbers i 0) w (number_written b' (i * 4) ((i + 1) * 4) (get_or numbers i 0) room (omega arith)))

pub row_more : (m : List ℕ) (lots i : ℕ) {b b' b'' : List ℕ} → Written b b' 0 (i * 16) (each row16 (rows_at m lots i)) → Written b' b'' (i * 16) (i * 16 + 16) (row16 (row_at m lots i))
    → Written b b'' 0 ((i + 1) * 16) (each row16 (rows_at m lots (i + 1)))
row_more m lots i v w =
    let z : 0 + i ≡ i = omega arith in
    let n : i * 16 + 16 ≡ (i + 1) * 16 = omega arith in
    let more : rows_at m lots (suc i) ≡ rows_at m lots i ++ row_at m lots i ∷ [] = rw z at (upward_more i 0 (λ j. row_at m lots j ∷ [])) in
    rw (← n, add-one i, more) (one_more_law row16 (rows_at m lots i) (row_at m lots i) v w)
