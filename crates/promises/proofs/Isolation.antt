-- Demand 1, isolation: what calls for other accounts do never reaches an open account in its undamaged lot. Assumes nothing.
-- The account has a number and a lot. Its own calls name both: deliver, close, read, save, and drop, which may end it. Start is a call for all accounts, and may end it too.
-- Every other call counts as one for another account: whichever call names another lot, or this lot with another number; open and load of any account, this one among them (13); the overview; with any lot count.
-- Between the own calls of the runs compared there may also be starts and own drops that are refused: they change nothing. One that is done ends the account, and stands at the end of the runs.
use Prim.Native.Nat.{ℕ}
use mathlib.Core.Path.{◌≡◌, refl, sym, ap, ◌∙◌}
use mathlib.Core.Logic.{◌≢◌}
use mathlib.Core.Bool.{Bool, true, false, not, ◌&&◌}
use mathlib.Core.List.{List, [], ◌∷◌}
use lib.Dec.{eqb}
use lib.ListN.{length}
use borrow.Author.Tests.{eq-eqb, eqb-true}
use Rattle.std.specs.Prelude.{if◌then◌else◌, Result, Ok, Err}
use Rattle.model.specs.Entry.{entry_of}
use Rattle.model.specs.Account.{Account, Named, refused, found}
use Rattle.model.specs.Taking.{taken, deliver_to}
use Rattle.model.specs.Closing.{close, close_from}
use Rattle.model.specs.declared.Refusal.TheVariants.{NoSuchLot, NotThisAccount}
use Rattle.model.proofs.Tests.{no_way, and_l}
use Rattle.model.specs.declared.Refusal.{Refusal}
use Rattle.lot.specs.View.{Lot, free, damaged, holds, view_lot}
use Rattle.lots.specs.Memory.{memory_fits, lot_fits, lot_of, view_of, named}
use Rattle.lots.proofs.Named.{holder}
use Rattle.lots.proofs.Parts.{others_stay}
use Rattle.standby.specs.Calls.{deliver_answer, TakenBy, Delivered, read_from, read_answer, drop_from, drop_answer, Freed, Dropped}
use Rattle.standby.specs.Closing.{close_answer, ClosedAs, EpochClosed}
use Rattle.standby.specs.Images.{save_from, save_answer, SavedIn, AccountSaved}
use Rattle.standby.proofs.Determined.{closed_alike}
use Rattle.standby.proofs.Isolated.{open_elsewhere, load_elsewhere}
use Rattle.promises.specs.Runs.{Call, drop_account, Reply, outcome, closed, found as found-reply, saved, Step, starts, opens, delivers, closes, reads, saves, loads, drops, overviews, Turn, Run, ends, goes}
use Rattle.promises.specs.Own.{names, is_own, is_end, Kept, own_turns, calls_of}
use Rattle.promises.specs.Written.{is_done}
use Rattle.promises.specs.Holding.{Holding, Agree, SameOwnCalls, AnsweredAlike}
use Rattle.promises.proofs.Written.{length_kept, refusal_changes_nothing}

-- ---- a call that is not the account's own leaves its lot

module _ {number lot : ℕ} {m : List ℕ} {a : Account} (h : Holding number lot m a) where
  same_number : {i n : ℕ} {b : Account} → lot ≡ i → view_of m i ≡ holds b → b.number ≡ n → names number lot i n ≡ true
  same_number {i} {n} {b} e v s =
      let t : holds a ≡ holds b = sym h.held ∙ ap (view_of m) e ∙ v in
      let u : a ≡ b = cc in
      rw (eq-eqb i lot (sym e)) (eq-eqb n number (sym s ∙ sym (ap (λ x. x.number) u) ∙ h.numbered))

  -- a call that finds the account it names, and does not name both this lot and this number, finds it in another lot
  found_elsewhere : (lots i n : ℕ) {b : Account} → named m lots i n ≡ found b → names number lot i n ≡ false → lot ≢ i
  found_elsewhere lots i n q o e = let w = holder m lots i n q in no_way (sym o ∙ same_number e w.held w.numbered)

  deliver_leaves : {m' : List ℕ} {lots i n : ℕ} {entry : List ℕ} {r : Result (Unit {0}) Refusal} → Delivered m m' lots i n entry r → names number lot i n ≡ false → lot_of m' lot ≡ lot_of m lot
  unfolding deliver_answer
  deliver_leaves {m'} {lots} {i} {n} {entry} {r} w o = go r (named m lots i n) refl w.answer w.taken
    where
      go : (r : Result (Unit {0}) Refusal) (x : Named) → named m lots i n ≡ x → r ≡ deliver_to x entry → TakenBy m m' i entry r → lot_of m' lot ≡ lot_of m lot
      go (Ok _) (refused s) q e u = no_way cc
      go (Ok _) (found b) q e u = others_stay u.0 lot (found_elsewhere lots i n q o)
      go (Err s) x q e u = rw u

  close_leaves : {m' : List ℕ} {lots i n : ℕ} {list list' : List ℕ} {r : Result ℕ Refusal} → EpochClosed m m' lots i n list list' r → names number lot i n ≡ false → lot_of m' lot ≡ lot_of m lot
  unfolding close_answer
  close_leaves {m'} {lots} {i} {n} {list} {list'} {r} w o = go r (named m lots i n) refl w.answer w.closed
    where
      go : (r : Result ℕ Refusal) (x : Named) → named m lots i n ≡ x → r ≡ close_from x (length list) → ClosedAs m m' i list list' r → lot_of m' lot ≡ lot_of m lot
      go (Ok count) (refused s) q e u = no_way cc
      go (Ok count) (found b) q e u = others_stay u.0 lot (found_elsewhere lots i n q o)
      go (Err s) x q e u = rw u.0

  drop_leaves : {m' : List ℕ} {lots i n : ℕ} {r : Result (Unit {0}) Refusal} → Dropped m m' lots i n r → names number lot i n ≡ false → lot_of m' lot ≡ lot_of m lot
  unfolding drop_answer
  drop_leaves {m'} {lots} {i} {n} {r} w o = go r (lot_fits lots i m) w.answer w.freed
    where
      -- a damaged lot and one that holds the account named are freed
      apart : (v : Lot) → view_of m i ≡ v → Ok tt ≡ drop_from v n → lot ≢ i
      apart free q e d = no_way cc
      apart damaged q e d = no_way (let t : holds a ≡ damaged = sym h.held ∙ ap (view_of m) d ∙ q in cc)
      apart (holds b) q e d = mine (eqb b.number n) refl e
        where
          mine : (t : Bool) → eqb b.number n ≡ t → Ok (tt {0}) ≡ (if t then Ok (tt {0}) else Err NotThisAccount) → ⊥
          mine true s e = no_way (sym o ∙ same_number d q (eqb-true b.number n s))
          mine false s e = no_way cc

      go : (r : Result (Unit {0}) Refusal) (t : Bool) → r ≡ (if not t then Err NoSuchLot else drop_from (view_of m i) n) → Freed m m' i r → lot_of m' lot ≡ lot_of m lot
      go (Ok _) false e u = no_way cc
      go (Ok _) true e u = others_stay u.0 lot (apart (view_of m i) refl e)
      go (Err s) t e u = rw u

  unending_leaves : {m' : List ℕ} {c : Call} {r : Reply} → Step m c r m' → is_own number lot c ≡ false → is_end number lot c ≡ false → lot_of m' lot ≡ lot_of m lot
  unfolding is_own is_end
  unending_leaves (starts w) o e = no_way (sym e)
  unending_leaves (opens w) o e = open_elsewhere lot w h.held
  unending_leaves (delivers w) o e = deliver_leaves w o
  unending_leaves (closes w) o e = close_leaves w o
  unending_leaves (reads w) o e = refl
  unending_leaves (saves w) o e = refl
  unending_leaves (loads w) o e = load_elsewhere lot w h.held
  unending_leaves (drops w) o e = drop_leaves w e
  unending_leaves (overviews w) o e = refl

  pub other_calls_leave : {m' : List ℕ} {c : Call} {r : Reply} → Step m c r m' → is_own number lot c ≡ false → (is_end number lot c && is_done r) ≡ false → lot_of m' lot ≡ lot_of m lot
  other_calls_leave {m'} {c} {r} w o e = go (is_end number lot c) (is_done r) refl refl e
    where
      go : (b d : Bool) → is_end number lot c ≡ b → is_done r ≡ d → (b && d) ≡ false → lot_of m' lot ≡ lot_of m lot
      go false d p q e = unending_leaves w o p
      go true true p q e = no_way (sym e)
      go true false p q e = rw (refusal_changes_nothing w q).0

-- ---- a call that names this lot is answered by what the lot means, and by how long the memory is

module _ {lot : ℕ} {m₁ m₂ : List ℕ} (g : Agree lot m₁ m₂) where
  fits_same : (lots : ℕ) → lot_fits lots lot m₂ ≡ lot_fits lots lot m₁
  unfolding lot_fits memory_fits
  fits_same lots = rw g.long

  finds_same : (lots number : ℕ) → named m₂ lots lot number ≡ named m₁ lots lot number
  unfolding named
  finds_same lots number = rw (fits_same lots, g.same)

  delivers_same : {m₁' m₂' : List ℕ} {lots n : ℕ} {entry : List ℕ} {r₁ r₂ : Result (Unit {0}) Refusal}
      → Delivered m₁ m₁' lots lot n entry r₁ → Delivered m₂ m₂' lots lot n entry r₂ → (r₂ ≡ r₁) × Agree lot m₁' m₂'
  unfolding deliver_answer
  delivers_same {m₁'} {m₂'} {lots} {n} {entry} {r₁} {r₂} u w =
      let e : r₂ ≡ r₁ = w.answer ∙ rw (finds_same lots n) (sym u.answer) in
      (e, go r₁ (named m₁ lots lot n) refl u.answer u.taken (rw e at w.taken))
    where
      go : (r : Result (Unit {0}) Refusal) (x : Named) → named m₁ lots lot n ≡ x → r ≡ deliver_to x entry → TakenBy m₁ m₁' lot entry r → TakenBy m₂ m₂' lot entry r → Agree lot m₁' m₂'
      go (Ok _) (refused s) q e u w = no_way cc
      go (Ok _) (found a) q e u w =
          let h = (holder m₁ lots lot n q).held in
          record { long = w.0.long ∙ g.long ∙ sym u.0.long; same = w.1 a (g.same ∙ h) ∙ sym (u.1 a h) }
      go (Err s) x q e u w = rw (w, u) g

  closes_same : {m₁' m₂' : List ℕ} {lots n : ℕ} {list list₁ list₂ : List ℕ} {r₁ r₂ : Result ℕ Refusal}
      → EpochClosed m₁ m₁' lots lot n list list₁ r₁ → EpochClosed m₂ m₂' lots lot n list list₂ r₂ → (closed r₂ list₂ ≡ closed r₁ list₁) × Agree lot m₁' m₂'
  closes_same {m₁'} {m₂'} {lots} {n} {list} {list₁} {list₂} {r₁} u w =
      let s = closed_alike (finds_same lots n) g.same u w in
      (rw (s.answer, s.list), record { long = long_after r₁ u.closed (rw s.answer at w.closed); same = s.account })
    where
      long_after : (r : Result ℕ Refusal) → ClosedAs m₁ m₁' lot list list₁ r → ClosedAs m₂ m₂' lot list list₂ r → length m₂' ≡ length m₁'
      long_after (Ok count) u w = w.0.long ∙ g.long ∙ sym u.0.long
      long_after (Err s) u w = rw (w.0, u.0) g.long

  saves_same : {lots n : ℕ} {buffer buffer₁ buffer₂ : List ℕ} {r₁ r₂ : Result ℕ Refusal}
      → AccountSaved m₁ lots lot n buffer buffer₁ r₁ → AccountSaved m₂ lots lot n buffer buffer₂ r₂ → saved r₂ buffer₂ ≡ saved r₁ buffer₁
  unfolding save_answer
  saves_same {lots} {n} {buffer} {buffer₁} {buffer₂} {r₁} {r₂} u w =
      let e : r₂ ≡ r₁ = w.answer ∙ rw (finds_same lots n) (sym u.answer) in
      let b = go r₁ (named m₁ lots lot n) refl u.answer u.saved (rw e at w.saved) in
      rw (e, b)
    where
      go : (r : Result ℕ Refusal) (x : Named) → named m₁ lots lot n ≡ x → r ≡ save_from x (length buffer) → SavedIn m₁ lot buffer buffer₁ r → SavedIn m₂ lot buffer buffer₂ r → buffer₂ ≡ buffer₁
      go (Ok l) (refused s) q e u w = no_way cc
      go (Ok l) (found a) q e u w = let h = (holder m₁ lots lot n q).held in w a (g.same ∙ h) ∙ sym (u a h)
      go (Err s) x q e u w = w ∙ sym u

  drops_same : {m₁' m₂' : List ℕ} {lots n : ℕ} {r₁ r₂ : Result (Unit {0}) Refusal}
      → Dropped m₁ m₁' lots lot n r₁ → Dropped m₂ m₂' lots lot n r₂ → (r₂ ≡ r₁) × Agree lot m₁' m₂'
  unfolding drop_answer
  drops_same {m₁'} {m₂'} {lots} {n} {r₁} {r₂} u w =
      let e : r₂ ≡ r₁ = w.answer ∙ rw (fits_same lots, g.same) (sym u.answer) in
      (e, go r₁ u.freed (rw e at w.freed))
    where
      go : (r : Result (Unit {0}) Refusal) → Freed m₁ m₁' lot r → Freed m₂ m₂' lot r → Agree lot m₁' m₂'
      go (Ok _) u w = record { long = w.0.long ∙ g.long ∙ sym u.0.long; same = w.1 ∙ sym u.1 }
      go (Err s) u w = rw (w, u) g

module _ (number lot : ℕ) where
  own_lot : (i n : ℕ) → names number lot i n ≡ true → i ≡ lot
  own_lot i n o = eqb-true i lot (and_l (eqb i lot) (eqb n number) o)

  -- the own calls of two memories that agree on the lot are answered alike, with list and buffer, and leave memories that agree on it
  pub own_call_same : {m₁ m₂ m₁' m₂' : List ℕ} {c : Call} {r₁ r₂ : Reply} → Agree lot m₁ m₂ → is_own number lot c ≡ true → Step m₁ c r₁ m₁' → Step m₂ c r₂ m₂' → (r₂ ≡ r₁) × Agree lot m₁' m₂'
  unfolding is_own read_answer
  own_call_same g o (starts u) (starts w) = no_way o
  own_call_same g o (opens u) (opens w) = no_way o
  own_call_same g o (delivers {lot = i} {number = n} u) (delivers w) = let e = own_lot i n o in rw (← e) (let s = delivers_same (rw e g) u w in (ap outcome s.0, s.1))
  own_call_same g o (closes {lot = i} {number = n} u) (closes w) = let e = own_lot i n o in rw (← e) (closes_same (rw e g) u w)
  own_call_same g o (reads {lots = lots} {lot = i} {number = n} {fragment = f} {key = k} u) (reads w) = let e = own_lot i n o in (ap found-reply (w ∙ ap (λ x. read_from x f k) (finds_same (rw e g) lots n) ∙ sym u), g)
  own_call_same g o (saves {lot = i} {number = n} u) (saves w) = let e = own_lot i n o in (saves_same (rw e g) u w, g)
  own_call_same g o (loads u) (loads w) = no_way o
  own_call_same g o (drops u) (drops w) = no_way o
  own_call_same g o (overviews u) (overviews w) = no_way o

  -- the account is open in its lot of this memory
  abbrev pub StillOpen : List ℕ → Type 0
  StillOpen m = (a : Account) × Holding number lot m a

  module _ {m m' : List ℕ} {a : Account} (h : Holding number lot m a) where
    deliver_keeps : (entry : List ℕ) (r : Result (Unit {0}) Refusal) → TakenBy m m' lot entry r → StillOpen m'
    unfolding taken
    deliver_keeps entry (Ok _) t = (taken (entry_of entry) a, record { held = t.1 a h.held; numbered = h.numbered })
    deliver_keeps entry (Err s) t = (a, rw t h)

    close_keeps : (list list' : List ℕ) (r : Result ℕ Refusal) → ClosedAs m m' lot list list' r → StillOpen m'
    unfolding close
    close_keeps list list' (Ok count) t = (close a, record { held = (t.1 a h.held).0; numbered = h.numbered })
    close_keeps list list' (Err s) t = (a, rw t.0 h)

  -- an own call leaves the account open there, under its number
  pub own_call_keeps : {m m' : List ℕ} {c : Call} {r : Reply} {a : Account} → Holding number lot m a → is_own number lot c ≡ true → Step m c r m' → StillOpen m'
  unfolding is_own
  own_call_keeps h o (starts u) = no_way o
  own_call_keeps h o (opens u) = no_way o
  own_call_keeps h o (delivers {lot = i} {number = n} {entry = entry} {r = r} u) = let e = own_lot i n o in deliver_keeps h entry r (rw e at u.taken)
  own_call_keeps h o (closes {lot = i} {number = n} {list = list} {list' = list'} {r = r} u) = let e = own_lot i n o in close_keeps h list list' r (rw e at u.closed)
  own_call_keeps h o (reads u) = (_, h)
  own_call_keeps h o (saves u) = (_, h)
  own_call_keeps h o (loads u) = no_way o
  own_call_keeps h o (drops u) = no_way o
  own_call_keeps h o (overviews u) = no_way o

  -- ---- a run, seen from one lot: the own turns, and between them memories that agree on the lot

  data Seen : List ℕ → List Turn → List ℕ → Type 0 where
    rests : {m m' : List ℕ} → Agree lot m m' → Seen m [] m'
    turns : {m m₁ m₂ m' : List ℕ} {c : Call} {r : Reply} {ts : List Turn} → Agree lot m m₁ → is_own number lot c ≡ true → Step m₁ c r m₂ → Seen m₂ ts m' → Seen m (record { call = c; reply = r } ∷ ts) m'

  agrees : {m m₁ m₂ : List ℕ} → Agree lot m m₁ → Agree lot m₁ m₂ → Agree lot m m₂
  agrees p q = record { long = q.long ∙ p.long; same = q.same ∙ p.same }

  later : {m m₁ m' : List ℕ} {ts : List Turn} → Agree lot m m₁ → Seen m₁ ts m' → Seen m ts m'
  later p (rests q) = rests (agrees p q)
  later p (turns q o w s) = turns (agrees p q) o w s

  other_agrees : {m m' : List ℕ} {c : Call} {r : Reply} {a : Account} → Holding number lot m a → Step m c r m' → is_own number lot c ≡ false → (is_end number lot c && is_done r) ≡ false → Agree lot m m'
  unfolding view_of
  other_agrees h w o e = record { long = length_kept w; same = ap view_lot (other_calls_leave h w o e) }

  seen : {m m' : List ℕ} {ts : List Turn} → StillOpen m → Run m ts m' → Kept number lot ts → Seen m (own_turns number lot ts) m'
  unfolding Kept own_turns
  seen h ends k = rests (record { long = refl; same = refl })
  seen {m} {m'} h (goes {m₁ = m₁} {c = c} {r = r} {ts = ts} w run) k = go (is_own number lot c) refl (λ n. seen n run k.1)
    where
      go : (b : Bool) → is_own number lot c ≡ b → (StillOpen m₁ → Seen m₁ (own_turns number lot ts) m') → Seen m (if b then record { call = c; reply = r } ∷ own_turns number lot ts else own_turns number lot ts) m'
      go true o rest = turns (record { long = refl; same = refl }) o w (rest (own_call_keeps h.1 o w))
      go false o rest = let g = other_agrees h.1 w o k.0 in later g (rest (h.0, record { held = g.same ∙ h.1.held; numbered = h.1.numbered }))

  back : {m₁ m₂ : List ℕ} → Agree lot m₁ m₂ → Agree lot m₂ m₁
  back g = record { long = sym g.long; same = sym g.same }

  open_by : {m₁ m₂ : List ℕ} → Agree lot m₁ m₂ → StillOpen m₁ → StillOpen m₂
  open_by g h = (h.0, record { held = g.same ∙ h.1.held; numbered = h.1.numbered })

  still_open : {m m' : List ℕ} {ts : List Turn} → StillOpen m → Seen m ts m' → StillOpen m'
  still_open h (rests g) = open_by g h
  still_open h (turns g o w s) = still_open (own_call_keeps (open_by g h).1 o w) s

  same_turns : {m₁ m₂ m₁' m₂' : List ℕ} {ts₁ ts₂ : List Turn} → Agree lot m₁ m₂ → Seen m₁ ts₁ m₁' → Seen m₂ ts₂ m₂' → calls_of ts₂ ≡ calls_of ts₁ → (ts₂ ≡ ts₁) × Agree lot m₁' m₂'
  unfolding calls_of
  same_turns g (rests p) (rests q) e = (refl, agrees (agrees (back p) g) q)
  same_turns g (rests p) (turns q o w s) e = no_way cc
  same_turns g (turns p o w s) (rests q) e = no_way cc
  same_turns g (turns {c = c₁} {r = r₁} {ts = ts₁} p o w s) (turns {c = c₂} {r = r₂} {ts = ts₂} q o₂ u t) e =
      let c : c₂ ≡ c₁ = cc in
      let next = own_call_same (agrees (agrees (back p) g) q) o w (rw c at u) in
      let rest = same_turns next.1 s t cc in
      (rw (c, next.0, rest.0), rest.1)

  pub isolated : {m₁ m₂ m₁' m₂' : List ℕ} {ts₁ ts₂ : List Turn} → SameOwnCalls number lot m₁ m₂ ts₁ ts₂ → Run m₁ ts₁ m₁' → Run m₂ ts₂ m₂' → AnsweredAlike number lot m₁' m₂' ts₁ ts₂
  isolated x run₁ run₂ =
      let there : StillOpen _ = (x.account, x.open_there) in
      let s₁ = seen there run₁ x.kept₁ in
      let same = same_turns x.agree s₁ (seen (open_by x.agree there) run₂ x.kept₂) x.own_calls in
      let there' = still_open there s₁ in
      record { same_own_turns = same.0; account = there'.0; open_there = there'.1; agree = same.1 }

  -- .. and so is a drop that follows: it is done in both, and frees the lot, or is refused in both
  pub drop_alike : {m₁ m₂ m₁' m₂' : List ℕ} {lots : ℕ} {r₁ r₂ : Reply} → Agree lot m₁ m₂ → Step m₁ (drop_account lots lot number) r₁ m₁' → Step m₂ (drop_account lots lot number) r₂ m₂' → (r₂ ≡ r₁) × Agree lot m₁' m₂'
  drop_alike g (drops u) (drops w) = let s = drops_same g u w in (ap outcome s.0, s.1)
