-- What `insert` leaves. Assumes nothing.
use Prim.Native.Nat.{ℕ, ◌+◌, ◌-◌, ◌≤◌}
use mathlib.Core.Path.{◌≡◌, ◌∙◌}
use mathlib.Core.List.{List, ◌++◌, append_assoc}
use native.Mathlib.Omega.{arith}
use lib.ListN.{length, take, drop, length-take}
use lib.Seq.{take-append-le, take-take, drop-drop, drop_at, slice, length-take-le}
use borrow.Rule.Slice.PartMut.{put_mid}
use Rattle.std.specs.List.{copy_within}
use Rattle.std.proofs.lemmas.Slice.{between_is}
use Rattle.places.specs.Moves.{inserted}

-- s is what the move leaves, r the 20 bytes that are then written over the place which it left
pub insert_is : (l r s : List ℕ) (a e : ℕ) → a ≤ e → e + 20 ≤ length l → length r ≡ 20 → s ≡ copy_within l a e (a + 20) → put_mid a (a + 20 - a) s r ≡ inserted l a e r
unfolding inserted
insert_is l r s a e h k len m =
    let n : a + 20 - a ≡ 20 = omega arith in
    let z : a + 20 + (e - a) ≡ e + 20 = omega arith in
    let t = slice a e l ++ drop (e + 20) l in
    let moved : s ≡ take (a + 20) l ++ t = m ∙ rw (append_assoc, z, between_is l a e) in
    let la : a ≤ length (take (a + 20) l) = simp length-take (omega arith) in
    let before : take a s ≡ take a l = rw moved (take-append-le a (take (a + 20) l) t la ∙ take-take a (a + 20) l (omega arith)) in
    let after : drop 20 (drop a s) ≡ t = rw moved (drop-drop 20 a (take (a + 20) l ++ t) ∙ drop_at (take (a + 20) l) t (a + 20) (length-take-le (a + 20) l (omega arith))) in
    rw (n, before, after)
