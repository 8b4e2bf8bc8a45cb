-- Each contract determines its call: two steps of one call from one memory have the same reply, and leave memories that differ in no byte outside the lot written, nor in what that lot holds. Assumes nothing.
use Prim.Native.Nat.{ℕ, ◌*◌, ◌<◌, ◌≤◌}
use mathlib.Core.Path.{◌≡◌, refl, sym, ap, ◌∙◌}
use mathlib.Core.Bool.{Bool, true, false}
use mathlib.Core.List.{List, []}
use native.Mathlib.Omega.{arith}
use native.Mathlib.Decide.{dec_lt}
use lib.Dec.{eqb}
use lib.ListN.{length, drop_of_length-le}
use Rattle.std.specs.Prelude.{if◌then◌else◌, Result, Ok, Err}
use Rattle.model.specs.Answers.{refusal_numbers}
use Rattle.model.specs.declared.Refusal.{Refusal}
use Rattle.model.specs.declared.Refusal.TheVariants.{NoSuchLot}
use Rattle.model.proofs.Tests.{no_way}
use Rattle.lot.specs.Layout.{SIZE}
use Rattle.lot.specs.View.{view_lot}
use Rattle.lots.specs.Memory.{memory_fits, lot_of, view_of}
use Rattle.lots.proofs.Parts.{memory_long}
use Rattle.standby.specs.Calls.{start_answer, Started}
use Rattle.standby.proofs.Determined.{SameAfter, SameStart, SameOpen, SameClose, started_same, opened_same, delivered_same, dropped_same, closed_same, saved_same, loaded_same}
use Rattle.overview.proofs.Answers.{overviewed_same}
use Rattle.promises.specs.Runs.{Call, Reply, outcome, opened, closed, found, saved, overviewed, reply_numbers, Step, starts, opens, delivers, closes, reads, saves, loads, drops, overviews}
use Rattle.promises.specs.Written.{is_done, Where, nowhere, in_lot, in_all_lots, writes, Same}
use Rattle.promises.proofs.Written.{refusal_not_done}

idle_same : (s : Refusal) (p : Where) (m₁ m₂ : List ℕ) → m₂ ≡ m₁ → Same (if eqb (refusal_numbers s).number 0 then p else nowhere) m₁ m₂
idle_same s p m₁ m₂ e = rw (refusal_not_done s) e

either_same : (b : Bool) (m : List ℕ) → Same (if b then nowhere else nowhere) m m
either_same true m = refl
either_same false m = refl

-- past the last lot there is nothing
pub no_lot : (m : List ℕ) (lots i : ℕ) → length m ≡ lots * SIZE → lots ≤ i → lot_of m i ≡ []
no_lot m lots i e h = rw (drop_of_length-le m {i = i * SIZE} (omega arith))

pub started_fits : {m m' : List ℕ} {lots : ℕ} → Started m m' lots (Ok tt) → memory_fits lots m ≡ true
unfolding start_answer
started_fits {m} {m'} {lots} w = go (memory_fits lots m) w.answer
  where
    go : (t : Bool) → Ok (tt {0}) ≡ (if t then Ok (tt {0}) else Err NoSuchLot) → t ≡ true
    go true e = refl
    go false e = no_way cc

-- ---- the laws of the single calls, by where a call writes

module _ (m₁ m₂ : List ℕ) where
  by_outcome : (i : ℕ) (r : Result (Unit {0}) Refusal) → SameAfter i r m₁ m₂ → Same (if is_done (outcome r) then in_lot i else nowhere) m₁ m₂
  by_outcome i (Ok _) s = s
  by_outcome i (Err t) s = idle_same t _ m₁ m₂ s

  by_opened : (r : Result ℕ Refusal) → SameOpen r m₁ m₂ → Same (if is_done (opened r) then in_lot (reply_numbers (opened r)).first else nowhere) m₁ m₂
  by_opened (Ok i) s = s
  by_opened (Err t) s = idle_same t _ m₁ m₂ s

  by_closed : (i : ℕ) (r : Result ℕ Refusal) (list : List ℕ) → SameClose i r m₁ m₂ → Same (if is_done (closed r list) then in_lot i else nowhere) m₁ m₂
  by_closed i (Ok n) list s = s
  by_closed i (Err t) list s = idle_same t _ m₁ m₂ s

  by_started : {m : List ℕ} {lots : ℕ} (r : Result (Unit {0}) Refusal) → Started m m₁ lots r → Started m m₂ lots r → SameStart lots r m₁ m₂ → Same (if is_done (outcome r) then in_all_lots else nowhere) m₁ m₂
  unfolding view_of
  by_started {m} {lots} (Ok _) u w s =
      let long₁ : length m₁ ≡ lots * SIZE = u.freed.long ∙ memory_long lots m (started_fits u) in
      (s.0, λ i. go i (s.0 ∙ long₁) long₁ (dec_lt i lots))
    where
      go : (i : ℕ) → length m₂ ≡ lots * SIZE → length m₁ ≡ lots * SIZE → Dec (i < lots) → view_lot (lot_of m₂ i) ≡ view_lot (lot_of m₁ i)
      go i l₂ l₁ (yes h) = s.1 i h
      go i l₂ l₁ (no h) = ap view_lot (no_lot m₂ lots i l₂ (omega arith) ∙ sym (no_lot m₁ lots i l₁ (omega arith)))
  by_started (Err t) u w s = idle_same t _ m₁ m₂ s

pub same_steps : {m m₁ m₂ : List ℕ} {c : Call} {r₁ r₂ : Reply} → Step m c r₁ m₁ → Step m c r₂ m₂ → (r₂ ≡ r₁) × Same (writes c r₁) m₁ m₂
same_steps (starts {m' = m₁} {r = r} u) (starts {m' = m₂} w) = let s = started_same u w in (ap outcome s.0, by_started m₁ m₂ r u (rw s.0 at w) s.1)
same_steps (opens {m' = m₁} {r = r} u) (opens {m' = m₂} w) = let s = opened_same u w in (ap opened s.0, by_opened m₁ m₂ r s.1)
same_steps (delivers {m' = m₁} {lot = i} {r = r} u) (delivers {m' = m₂} w) = let s = delivered_same u w in (ap outcome s.0, by_outcome m₁ m₂ i r s.1)
same_steps (closes {m' = m₁} {lot = i} {list' = l} {r = r} u) (closes {m' = m₂} w) = let s = closed_same u w in (rw (s.0, s.2), by_closed m₁ m₂ i r l s.1)
same_steps {m} (reads {r = r} u) (reads w) = (ap found (w ∙ sym u), either_same (is_done (found r)) m)
same_steps {m} (saves {buffer' = b} {r = r} u) (saves w) = let s = saved_same u w in (rw (s.0, s.1), either_same (is_done (saved r b)) m)
same_steps (loads {m' = m₁} {r = r} u) (loads {m' = m₂} w) = let s = loaded_same u w in (ap opened s.0, by_opened m₁ m₂ r s.1)
same_steps (drops {m' = m₁} {lot = i} {r = r} u) (drops {m' = m₂} w) = let s = dropped_same u w in (ap outcome s.0, by_outcome m₁ m₂ i r s.1)
same_steps {m} (overviews {rows' = rows} {r = r} u) (overviews w) = let s = overviewed_same u w in (rw (s.0, s.1), either_same (is_done (overviewed r rows)) m)
