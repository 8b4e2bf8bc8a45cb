-- A close that was lent a list of its own, with room where the bytes have room, is the close of the list that the bytes are. Assumes nothing.
use Prim.Native.Nat.{ℕ, ◌+◌, ◌*◌, ◌/◌, ◌≤◌}
use mathlib.Core.Path.{◌≡◌, refl, sym, ap, ◌∙◌}
use mathlib.Core.Bool.{Bool, true, false}
use mathlib.Core.List.{List, ◌++◌}
use native.Mathlib.Omega.{arith}
use lib.Dec.{ltb}
use lib.ListN.{length, take, drop, length-append}
use lib.Seq.{take_at, take-append-le, length-take-le}
use borrow.Author.Tests.{ltb-true, ltb-false, lt-ltb, le-ltb}
use Rattle.wire.specs.Numbers.{bytes32}
use Rattle.std.specs.Prelude.{if◌then◌else◌, Result, Ok, Err}
use Rattle.model.specs.Account.{Account, Named, refused, found}
use Rattle.model.specs.Closing.{LEAST_LIST, judge_room, listed, pairs, close_judged, close_from}
use Rattle.model.specs.Image.{each}
use Rattle.model.specs.Decoding.{parse}
use Rattle.model.proofs.Tests.{no_way}
use Rattle.model.specs.declared.Refusal.{Refusal}
use Rattle.lot.specs.View.{holds}
use Rattle.lookback.proofs.Places.{length_parse}
use Rattle.judging.proofs.Parts.{Bytes}
use Rattle.image.specs.Saving.{Written}
use Rattle.epoch.proofs.Listing.{length_numbers}
use Rattle.lots.specs.Memory.{view_of, named}
use Rattle.lots.proofs.Named.{holder}
use Rattle.standby.specs.Closing.{close_answer, ClosedAs, EpochClosed}
use Rattle.service.specs.Crossing.{ListClosed}
use Rattle.service.specs.Writing.{room_in, written_by}
use Rattle.service.proofs.Crossing.{crosses, number_in, number_long, number_sound}

-- ---- the room

module _ (bytes : ℕ) where
  pub room_most : room_in bytes ≤ 512
  unfolding room_in
  room_most = go (ltb bytes 2048)
    where
      go : (t : Bool) → (if t then 0 else 512) ≤ 512
      go true = omega arith
      go false = omega arith

  pub room_inside : room_in bytes ≤ bytes / 4
  unfolding room_in
  room_inside = go (ltb bytes 2048) refl
    where
      go : (t : Bool) → ltb bytes 2048 ≡ t → (if t then 0 else 512) ≤ bytes / 4
      go true e = omega arith
      go false e = omega (arith, ltb-false bytes 2048 e)

  room_alike : ltb (room_in bytes) LEAST_LIST ≡ ltb (bytes / 4) LEAST_LIST
  unfolding room_in
  room_alike = go (ltb bytes 2048) refl
    where
      go : (t : Bool) → ltb bytes 2048 ≡ t → ltb (if t then 0 else 512) 512 ≡ ltb (bytes / 4) 512
      go true e = let h = ltb-true bytes 2048 e in sym (lt-ltb (bytes / 4) 512 (omega arith))
      go false e = let h = ltb-false bytes 2048 e in sym (le-ltb (bytes / 4) 512 (omega arith))

-- ---- a close with another list

rooms_alike : (n : Named) (x y : ℕ) → ltb x LEAST_LIST ≡ ltb y LEAST_LIST → close_from n x ≡ close_from n y
unfolding judge_room
rooms_alike (refused r) x y e = refl
rooms_alike (found a) x y e = rw e

module _ (m : List ℕ) (lots lot number : ℕ) where
  -- the account whose pieces a close has counted
  record Counted (count : ℕ) : Type 0 where
    account : Account
    held : view_of m lot ≡ holds account
    counted : count ≡ length (listed account)

  counts : (count room : ℕ) → Ok count ≡ close_from (named m lots lot number) room → Counted count
  counts count room e = go (named m lots lot number) refl e
    where
      judged : (a : Account) (o : Result (Unit {0}) Refusal) → named m lots lot number ≡ found a → Ok count ≡ close_judged o (length (listed a)) → Counted count
      judged a (Ok _) q e = record { account = a; held = (holder m lots lot number q).held; counted = cc }
      judged a (Err r) q e = no_way cc

      go : (n : Named) → named m lots lot number ≡ n → Ok count ≡ close_from n room → Counted count
      go (refused r) q e = no_way cc
      go (found a) q e = judged a (judge_room a room) q e

  module _ {m' list list' : List ℕ} where
    -- the numbers written are those of the pieces
    pairs_written : (count : ℕ) → EpochClosed m m' lots lot number list list' (Ok count) → (a : Account) → view_of m lot ≡ holds a → (length (pairs (listed a)) ≡ 2 * count)
    unfolding close_answer
    pairs_written count w a v =
        let k = counts count (length list) w.answer in
        let same : k.account ≡ a = cc in
        let n : length (listed k.account) ≡ length (listed a) = ap (λ b. length (listed b)) same in
        omega (arith, length_numbers (listed a), k.counted)

    pub written_inside : (r : Result ℕ Refusal) → length list' ≡ length list → EpochClosed m m' lots lot number list list' r → written_by r ≤ length list
    unfolding close_answer
    written_inside (Err r) e w = omega arith
    written_inside (Ok count) e w =
        let k = counts count (length list) w.answer in
        let p = pairs (listed k.account) in
        let n : length p ≡ 2 * count = pairs_written count w k.account k.held in
        let l : length list' ≡ length p + length (drop (2 * count) list) = ap length (w.closed.1 k.account k.held).1 ∙ length-append p (drop (2 * count) list) in
        omega arith

    other_list : (r : Result ℕ Refusal) (other : List ℕ) → ltb (length list) LEAST_LIST ≡ ltb (length other) LEAST_LIST → EpochClosed m m' lots lot number list list' r
        → EpochClosed m m' lots lot number other (take (written_by r) list' ++ drop (written_by r) other) r
    unfolding close_answer
    other_list r other e w = record { answer = w.answer ∙ rooms_alike (named m lots lot number) (length list) (length other) e; closed = go r w }
      where
        go : (r : Result ℕ Refusal) → EpochClosed m m' lots lot number list list' r → ClosedAs m m' lot other (take (written_by r) list' ++ drop (written_by r) other) r
        go (Err r) w = (w.closed.0, refl)
        go (Ok count) w = (
          w.closed.0,
          λ a v.
              let d = w.closed.1 a v in
              (d.0, rw (d.1, take_at (pairs (listed a)) (drop (2 * count) list) (2 * count) (pairs_written count w a v))),
        )

pub none_written : (r : Result ℕ Refusal) → ((n : ℕ) → r ≡ Ok n → ⊥) → written_by r ≡ 0
none_written (Ok n) h = absurd (h n refl)
none_written (Err r) h = refl

-- ---- the list of bytes b, closed with as many of the numbers as there is room for: `left` is what the close left of these

module _ (m m' : List ℕ) (lots lot number : ℕ) (b numbers left : List ℕ) (room : ℕ) (r : Result ℕ Refusal) (all : length numbers ≡ LEAST_LIST) (is_room : room ≡ room_in (length b)) (kept : length left ≡ length (take room numbers)) (w : EpochClosed m m' lots lot number (take room numbers) left r) where
  lent_long : length (take room numbers) ≡ room_in (length b)
  lent_long = length-take-le room numbers (omega (arith, room_most (length b))) ∙ is_room

  written_most : written_by r ≤ length left
  written_most = omega (arith, written_inside m lots lot number r kept w)

  pub written_fits : (rest : List ℕ) → (written_by r ≤ length (left ++ rest)) × (written_by r * 4 ≤ length b)
  written_fits rest = (omega (arith, written_most, length-append left rest), omega (arith, written_most, lent_long, room_inside (length b)))

  pub list_closed : (rest : List ℕ) {b' : List ℕ} {e : ℕ} → Bytes b → Written b b' 0 e (each bytes32 (take (written_by r) (left ++ rest))) → ListClosed m m' lots lot number b b' r
  list_closed rest small v =
      let n = length b / 4 in
      let k = written_by r in
      let front : take k (left ++ rest) ≡ take k left = take-append-le k left rest written_most in
      let long : length (take k left) ≡ k = length-take-le k left written_most in
      let other = parse n 4 number_in b in
      let alike : ltb (length (take room numbers)) LEAST_LIST ≡ ltb (length other) LEAST_LIST = rw (lent_long, length_parse 4 number_in n b) (room_alike (length b)) in
      crosses bytes32 4 number_long number_in number_sound b small n (omega arith) (take k left) (omega arith) (omega (arith, long, room_inside (length b), written_most, lent_long)) (rw front at v)
      (rw long (other_list m lots lot number r other alike w))
