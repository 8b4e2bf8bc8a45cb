-- Runs exist: at every memory each call has a step, so every sequence of calls is that of a run. Assumes nothing.
use Prim.Native.Nat.{ℕ, zero, suc, ◌+◌, ◌*◌, ◌≤◌}
use mathlib.Core.Path.{◌≡◌, refl, sym, ap}
use mathlib.Core.Bool.{Bool, true, false, not}
use mathlib.Core.List.{List, [], ◌∷◌, ◌++◌}
use native.Mathlib.Omega.{arith}
use lib.Dec.{ltb, eqb}
use lib.ListN.{length, drop}
use Rattle.std.specs.Prelude.{if◌then◌else◌, Result, Ok, Err}
use Rattle.model.specs.Entry.{LENGTH, entry_of}
use Rattle.model.specs.Account.{Account, fresh, Named, refused, found}
use Rattle.model.specs.Accepting.{WellFormed}
use Rattle.model.specs.Taking.{judge_entry, judge, taken, deliver_to}
use Rattle.model.specs.Closing.{judge_close, close, listed, LEAST_LIST, judge_room, close_judged, close_of, pairs, close_from}
use Rattle.model.specs.Image.{image}
use Rattle.model.specs.declared.Refusal.TheVariants.{NoSuchLot, WrongLength, TooShort}
use Rattle.model.proofs.Tests.{no_way}
use Rattle.model.proofs.Keeping.{fresh_well_formed, taken_well_formed, closed_well_formed}
use Rattle.model.proofs.Image.{loads_exactly}
use Rattle.model.specs.declared.Refusal.{Refusal}
use Rattle.lot.specs.Layout.{SIZE}
use Rattle.lot.specs.View.{free, holds}
use Rattle.lot.proofs.Views.{holds_well_formed}
use Rattle.lots.specs.Memory.{memory_fits, lot_fits, lot_of, view_of, Becomes, named}
use Rattle.lots.proofs.Named.{Holder, holder}
use Rattle.lots.proofs.Parts.{memory_long, lot_inside}
use Rattle.standby.specs.Calls.{AllFree, open_answer, deliver_answer, TakenBy, drop_from, drop_answer}
use Rattle.standby.specs.Closing.{close_answer, ClosedAs}
use Rattle.standby.specs.Images.{save_from, save_answer, SavedIn, load_answer, AccountLoaded}
use Rattle.standby.proofs.Calls.{not_started, is_started, none_yet, one_freed}
use Rattle.overview.specs.Overview.{overview_answer, rows_for, rows_with}
use Rattle.promises.specs.Runs.{Call, start, open_account, deliver, close_epoch, read_record, save_account, load_account, drop_account, overview, Reply, outcome, opened, closed, saved, overviewed, Step, starts, opens, delivers, closes, reads, saves, loads, drops, overviews, Turn, Run, ends, goes}
use Rattle.promises.specs.Own.{calls_of}
use Rattle.promises.proofs.Placing.{Placed, opened_placed, loaded_placed}
use Rattle.promises.proofs.Lots.{lot_with, lot_freed, becomes}

-- a reply and a memory such that the call's contract holds
abbrev pub Answers : List ℕ → Call → Type 0
Answers m c = (r : Reply) × (m' : List ℕ) × Step m c r m'

module _ (m : List ℕ) where
  -- ---- start

  all_freed : (n : ℕ) → n * SIZE ≤ length m → (m' : List ℕ) × AllFree n m m'
  all_freed zero h = (m, none_yet m)
  all_freed (suc n) h =
      let before = all_freed n (omega arith) in
      let next = becomes before.0 n free (omega (arith, before.1.long)) lot_freed in
      let z : n + 1 ≡ suc n = omega arith in
      (next.0, rw z at (one_freed n before.1 next.1))

  start_answers : (lots : ℕ) → Answers m (start lots)
  start_answers lots = go (memory_fits lots m) refl
    where
      go : (t : Bool) → memory_fits lots m ≡ t → Answers m (start lots)
      go true e = let f = all_freed lots (omega (arith, memory_long lots m e)) in (outcome (Ok tt), f.0, starts (is_started m lots e f.1))
      go false e = (outcome (Err NoSuchLot), m, starts (not_started m lots e))

  -- ---- open and load

  placed_inside : {lots number i : ℕ} → Placed m lots number i → i * SIZE + SIZE ≤ length m
  placed_inside {lots} p = omega (arith, memory_long lots m p.fits, p.there)

  open_answers : (lots number f k : ℕ) → Answers m (open_account lots number f k)
  open_answers lots number f k = go (open_answer m lots number f k) refl
    where
      go : (r : Result ℕ Refusal) → r ≡ open_answer m lots number f k → Answers m (open_account lots number f k)
      go (Ok i) e =
          let p = opened_placed m lots number f k e in
          let b = becomes m i (holds (fresh number f k)) (placed_inside p.0) (lot_with (fresh number f k) (fresh_well_formed number f k p.1)) in
          (opened (Ok i), b.0, opens (record { answer = e; opened = b.1 }))
      go (Err s) e = (opened (Err s), m, opens (record { answer = e; opened = refl }))

  load_answers : (lots : ℕ) (given : List ℕ) → Answers m (load_account lots given)
  load_answers lots given = go (load_answer m lots given) refl
    where
      go : (r : Result ℕ Refusal) → r ≡ load_answer m lots given → Answers m (load_account lots given)
      go (Ok i) e =
          let p = loaded_placed m lots given e in
          let a = p.account in
          let b = becomes m i (holds a) (placed_inside p.place) (lot_with a ((loads_exactly given a).0 p.shown).well_formed) in
          let w : AccountLoaded m b.0 lots given (Ok i) = record { answer = e; loaded = λ c q. let s : a ≡ c = let t = p.shown in cc in rw (← s) b.1 } in
          (opened (Ok i), b.0, loads w)
      go (Err s) e = (opened (Err s), m, loads (record { answer = e; loaded = refl }))

  -- ---- deliver, close, save: the account that they find

  module _ {lots lot number : ℕ} {a : Account} (h : Holder m lots lot number a) where
    found_well_formed : WellFormed a
    unfolding view_of
    found_well_formed = holds_well_formed (lot_of m lot) h.held

    only : {b : Account} → view_of m lot ≡ holds b → a ≡ b
    only e = let t = h.held in cc

    changed : (b : Account) → WellFormed b → (m' : List ℕ) × Becomes lot m m' (holds b)
    changed b ok = becomes m lot (holds b) (lot_inside lots lot m h.there) (lot_with b ok)

    takes : (entry : List ℕ) → judge a entry ≡ Ok tt → (m' : List ℕ) × TakenBy m m' lot entry (Ok tt)
    unfolding judge
    takes entry e =
        let b = changed (taken (entry_of entry) a) (taken_well_formed (entry_of entry) found_well_formed (fits (eqb (length entry) LENGTH) e)) in
        (b.0, (b.1.0, λ c q. rw (← only q) b.1.1))
      where
        fits : (t : Bool) → (if not t then Err WrongLength else judge_entry a (entry_of entry)) ≡ Ok tt → judge_entry a (entry_of entry) ≡ Ok tt
        fits true e = e
        fits false e = no_way cc

    closes_here : (list : List ℕ) (count : ℕ) → close_of a (length list) ≡ Ok count → (m' list' : List ℕ) × ClosedAs m m' lot list list' (Ok count)
    unfolding judge_room
    closes_here list count e =
        let b = changed (close a) (closed_well_formed found_well_formed (marked (ltb (length list) LEAST_LIST) (judge_close a) refl e)) in
        (b.0, pairs (listed a) ++ drop (2 * count) list, (b.1.0, λ c q. rw (← only q) (b.1.1, refl)))
      where
        marked : (short : Bool) (r : Result (Unit {0}) Refusal) → judge_close a ≡ r → close_judged (if short then Err TooShort else r) (length (listed a)) ≡ Ok count → judge_close a ≡ Ok tt
        marked true r q e = no_way cc
        marked false (Ok _) q e = q
        marked false (Err s) q e = no_way cc

  deliver_answers : (lots lot number : ℕ) (entry : List ℕ) → Answers m (deliver lots lot number entry)
  unfolding deliver_answer
  deliver_answers lots lot number entry = go (deliver_answer m lots lot number entry) (named m lots lot number) refl refl refl
    where
      go : (r : Result (Unit {0}) Refusal) (x : Named) → named m lots lot number ≡ x → r ≡ deliver_to x entry → r ≡ deliver_answer m lots lot number entry → Answers m (deliver lots lot number entry)
      go (Ok _) (refused s) q e w = no_way cc
      go (Ok _) (found a) q e w = let t = takes (holder m lots lot number q) entry (sym e) in (outcome (Ok tt), t.0, delivers (record { answer = w; taken = t.1 }))
      go (Err s) x q e w = (outcome (Err s), m, delivers (record { answer = w; taken = refl }))

  close_answers : (lots lot number : ℕ) (list : List ℕ) → Answers m (close_epoch lots lot number list)
  unfolding close_answer
  close_answers lots lot number list = go (close_answer m lots lot number list) (named m lots lot number) refl refl refl
    where
      go : (r : Result ℕ Refusal) (x : Named) → named m lots lot number ≡ x → r ≡ close_from x (length list) → r ≡ close_answer m lots lot number list → Answers m (close_epoch lots lot number list)
      go (Ok n) (refused s) q e w = no_way cc
      go (Ok n) (found a) q e w = let t = closes_here (holder m lots lot number q) list n (sym e) in (closed (Ok n) t.1, t.0, closes (record { answer = w; closed = t.2 }))
      go (Err s) x q e w = (closed (Err s) list, m, closes (record { answer = w; closed = (refl, refl) }))

  save_answers : (lots lot number : ℕ) (buffer : List ℕ) → Answers m (save_account lots lot number buffer)
  unfolding save_answer
  save_answers lots lot number buffer = go (save_answer m lots lot number buffer) (named m lots lot number) refl refl refl
    where
      go : (r : Result ℕ Refusal) (x : Named) → named m lots lot number ≡ x → r ≡ save_from x (length buffer) → r ≡ save_answer m lots lot number buffer → Answers m (save_account lots lot number buffer)
      go (Ok n) (refused s) q e w = no_way cc
      go (Ok n) (found a) q e w =
          let t : SavedIn m lot buffer (image a ++ drop n buffer) (Ok n) = λ c v. rw (← only (holder m lots lot number q) v) in
          (saved (Ok n) (image a ++ drop n buffer), m, saves (record { answer = w; saved = t }))
      go (Err s) x q e w = (saved (Err s) buffer, m, saves (record { answer = w; saved = refl }))

  -- ---- drop

  drop_answers : (lots lot number : ℕ) → Answers m (drop_account lots lot number)
  unfolding drop_answer
  drop_answers lots lot number = go (drop_answer m lots lot number) (lot_fits lots lot m) refl refl refl
    where
      go : (r : Result (Unit {0}) Refusal) (t : Bool) → lot_fits lots lot m ≡ t → r ≡ (if not t then Err NoSuchLot else drop_from (view_of m lot) number) → r ≡ drop_answer m lots lot number → Answers m (drop_account lots lot number)
      go (Ok _) false q e w = no_way cc
      go (Ok _) true q e w = let b = becomes m lot free (lot_inside lots lot m q) lot_freed in (outcome (Ok tt), b.0, drops (record { answer = w; freed = b.1 }))
      go (Err s) t q e w = (outcome (Err s), m, drops (record { answer = w; freed = refl }))

  pub steps_exist : (c : Call) → Answers m c
  steps_exist (start lots) = start_answers lots
  steps_exist (open_account lots number f k) = open_answers lots number f k
  steps_exist (deliver lots lot number entry) = deliver_answers lots lot number entry
  steps_exist (close_epoch lots lot number list) = close_answers lots lot number list
  steps_exist (read_record lots lot number fragment key) = (_, m, reads refl)
  steps_exist (save_account lots lot number buffer) = save_answers lots lot number buffer
  steps_exist (load_account lots given) = load_answers lots given
  steps_exist (drop_account lots lot number) = drop_answers lots lot number
  steps_exist (overview lots rows) = (overviewed (overview_answer m lots (length rows)) (rows_with m rows (rows_for lots (overview_answer m lots (length rows)))), m, overviews (record { answer = refl; filled = refl }))

-- every sequence of calls is that of a run, from whatever memory
pub runs_exist : (m : List ℕ) (cs : List Call) → (ts : List Turn) × (m' : List ℕ) × Run m ts m' × (calls_of ts ≡ cs)
unfolding calls_of
runs_exist m [] = ([], m, ends, refl)
runs_exist m (c ∷ cs) =
    let s = steps_exist m c in
    let rest = runs_exist s.1 cs in
    (record { call = c; reply = s.0 } ∷ rest.0, rest.1, goes s.2 rest.2, ap (λ l. c ∷ l) rest.3)
