-- A law for each answer of closing an epoch in a lot. Assumes nothing.
use Prim.Native.Nat.{ℕ, ◌≤◌}
use mathlib.Core.Path.{◌≡◌, refl, sym}
use mathlib.Core.Bool.{Bool, true, false}
use mathlib.Core.List.{List}
use lib.Dec.{ltb}
use lib.ListN.{length}
use borrow.Author.Tests.{ltb-false}
use Rattle.std.specs.Prelude.{if◌then◌else◌, Ok, Err}
use Rattle.model.specs.Closing.{judge_close, judge_room}
use Rattle.model.specs.Account as model
use Rattle.model.specs.declared.Refusal.{Refusal}
use Rattle.model.specs.declared.Refusal.TheVariants as refusal
use Rattle.model.proofs.Tests.{no_way}
use Rattle.lot.specs.Layout.{SIZE}
use Rattle.lot.specs.Look.{look_of, finding}
use Rattle.lot.specs.declared.Account as numbers
use Rattle.lot.proofs.Looked.{LooksHeld, finding_refused, finding_found, found_held, found_named}
use Rattle.closing.specs.Closing.{Judged, Due, CloseDone, LotClosed}

-- a judgement that refuses nothing
room_done : (a : model.Account) (room : ℕ) → judge_room a room ≡ Ok tt → (512 ≤ room) × (judge_close a ≡ Ok tt)
unfolding judge_room
room_done a room = go (ltb room 512) refl
  where
    go : (b : Bool) → ltb room 512 ≡ b → (if b then Err refusal.TooShort else judge_close a) ≡ Ok tt → (512 ≤ room) × (judge_close a ≡ Ok tt)
    go true q e = no_way cc
    go false q e = (ltb-false room 512 q, e)

module _ (l list : List ℕ) (number : ℕ) where
  pub not_found : {r : Refusal} → finding (look_of l) number ≡ Err r → LotClosed l l number list list (Err r)
  not_found e = record { answer = rw (finding_refused l number e); left = (refl, refl) }

  module _ {n : numbers.Account} (e : finding (look_of l) number ≡ Ok n) where
    abbrev h : LooksHeld l n
    h = found_held l number e

    pub due : length l ≡ SIZE → Judged l (length list) (Ok tt) → Due l n list
    due size j =
        record {
          looked = record { size = size; seen = (finding_found l number e).0 };
          room = (room_done h.account (length list) (sym (j h.account h.holds_it))).0;
          marked = λ a v. sym (room_done a (length list) (sym (j a v))).1;
        }

    pub refused : {why : Refusal} → Judged l (length list) (Err why) → LotClosed l l number list list (Err why)
    refused j = record { answer = rw (found_named l number e, ← j h.account h.holds_it); left = (refl, refl) }

    pub done : (l' list' : List ℕ) {p : ℕ} → Judged l (length list) (Ok tt) → CloseDone l l' list list' p → LotClosed l l' number list list' (Ok p)
    done l' list' j t = record { answer = rw (found_named l number e, ← j h.account h.holds_it, (t h.account h.holds_it).counted); left = t }
