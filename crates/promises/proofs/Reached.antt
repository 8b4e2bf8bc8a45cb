-- Whatever the model allows can be had by calls: from any memory in which an account can be opened there is a run that opens it, has these entries accepted and closes these epochs, in this order. So the premises of demand 3 can be met. Assumes nothing.
use Rattle.std.specs.Prelude.{Ok}
use Prim.Native.Nat.{ℕ, ◌+◌, ◌*◌, ◌/◌, ◌%◌, ◌<◌, ◌≤◌}
use mathlib.Core.Path.{◌≡◌, refl, ap, ◌∙◌}
use mathlib.Core.Bool.{true}
use mathlib.Core.List.{List, [], ◌∷◌, ◌++◌}
use native.Mathlib.Omega.{arith}
use lib.ListN.{length, drop, replicate}
use borrow.Author.Tests.{eq-eqb, lt-ltb, le-ltb}
use Rattle.wire.specs.Numbers.{number16, number32, bytes16, bytes32}
use Rattle.model.specs.Entry.{LENGTH, entry_of}
use Rattle.model.specs.Account.{Account, fresh, found}
use Rattle.model.specs.Accepting.{WellFormed}
use Rattle.model.specs.Taking as taking
use Rattle.model.specs.Taking.{judge_entry, judge}
use Rattle.model.specs.Closing.{judge_close, close, listed, pairs, LEAST_LIST, judge_room}
use Rattle.model.specs.Image.{image, LONGEST_IMAGE}
use Rattle.model.specs.Runs as model
use Rattle.model.specs.Runs.{run, Allowed}
use Rattle.model.specs.declared.Entry.{Entry}
use Rattle.model.proofs.Tests.{and}
use Rattle.model.proofs.Keeping.{fresh_well_formed, taken_well_formed, closed_well_formed}
use Rattle.lot.specs.View.{holds}
use Rattle.lot.specs.Writing.{found_of}
use Rattle.lot.proofs.Views.{holds_well_formed}
use Rattle.lots.specs.Memory.{memory_fits, lot_fits, lot_of, view_of, Becomes, named}
use Rattle.lots.proofs.Parts.{lot_inside}
use Rattle.standby.specs.Calls.{open_answer, deliver_answer, Delivered, read_answer}
use Rattle.standby.specs.Closing.{close_answer, EpochClosed}
use Rattle.standby.specs.Images.{save_answer}
use Rattle.promises.specs.Runs as runs
use Rattle.promises.specs.Runs.{Reply, open_account, deliver, read_record, close_epoch, save_account, outcome, opened, closed, saved, Step, opens, delivers, closes, reads, saves, Turn, Run, ends, goes}
use Rattle.promises.specs.Own.{names, is_own, is_end, Kept, own_turns, steps_of}
use Rattle.promises.specs.Holding.{Holding}
use Rattle.promises.specs.Followed.{steps_in, OpenedRun}
use Rattle.promises.proofs.Following.{run_number, opened_followed}
use Rattle.promises.proofs.Written.{length_kept}
use Rattle.promises.proofs.Placing.{opened_placed}
use Rattle.promises.proofs.Lots.{lot_with, becomes}

-- ---- the sixteen bytes of an entry

unfoldable pub entry16 : Entry → List ℕ
entry16 e = e.kind ∷ e.fragment ∷ (bytes16 e.sequence ++ (bytes32 e.transaction ++ (bytes16 e.argument ++ (bytes16 e.spare ++ bytes32 e.value))))

two : (v : ℕ) → v % 256 + 256 * (v / 256) ≡ v
two v = omega arith

four : (v : ℕ) → v % 256 + 256 * (v / 256 % 256) + 65536 * (v / 65536 % 256) + 16777216 * (v / 16777216) ≡ v
four v = omega arith

pub entry_back : (e : Entry) → entry_of (entry16 e) ≡ e
unfolding entry_of entry16 bytes16 bytes32 number16 number32
entry_back e = λ i. record { kind = e.kind; fragment = e.fragment; sequence = two e.sequence i; transaction = four e.transaction i; argument = two e.argument i; spare = two e.spare i; value = four e.value i }

entry_long : (e : Entry) → length (entry16 e) ≡ LENGTH
unfolding entry16 bytes16 bytes32
entry_long e = refl

-- ---- one step

-- the account stands in its lot, and there is such a lot
pub record Ready (number lots lot : ℕ) (m : List ℕ) (a : Account) : Type 0 where
  pub there : lot_fits lots lot m ≡ true
  pub here : Holding number lot m a

still_there : (lots lot : ℕ) (m m' : List ℕ) → length m' ≡ length m → lot_fits lots lot m ≡ true → lot_fits lots lot m' ≡ true
unfolding lot_fits memory_fits
still_there lots lot m m' e t = rw e t

module _ {number lots lot : ℕ} {m : List ℕ} {a : Account} (r : Ready number lots lot m a) where
  pub is_found : named m lots lot number ≡ found a
  unfolding named
  is_found = rw (r.there, r.here.held, eq-eqb a.number number r.here.numbered)

  is_well_formed : WellFormed a
  unfolding view_of
  is_well_formed = holds_well_formed (lot_of m lot) r.here.held

  same_account : (c : Account) → view_of m lot ≡ holds c → a ≡ c
  same_account c v = cc r.here.held

  changed : (b : Account) → WellFormed b → (m' : List ℕ) × Becomes lot m m' (holds b)
  changed b w = becomes m lot (holds b) (lot_inside lots lot m r.there) (lot_with b w)

  ready_after : {b : Account} {m' : List ℕ} → Becomes lot m m' (holds b) → b.number ≡ a.number → Ready number lots lot m' b
  ready_after {b} {m'} w e = record { there = still_there lots lot m m' w.0.long r.there; here = record { held = w.1; numbered = e ∙ r.here.numbered } }

  does_deliver : (e : Entry) {m' : List ℕ} → judge_entry a e ≡ Ok tt → Becomes lot m m' (holds (taking.taken e a)) → Delivered m m' lots lot number (entry16 e) (Ok tt)
  unfolding deliver_answer judge
  does_deliver e j w = record { answer = rw (is_found, entry_long e, entry_back e, j); taken = (w.0, λ c v. w.1 ∙ rw (← same_account c v, entry_back e)) }

  can_deliver : (e : Entry) → judge_entry a e ≡ Ok tt → (m' : List ℕ) × Step m (deliver lots lot number (entry16 e)) (outcome (Ok tt)) m' × Ready number lots lot m' (taking.taken e a)
  unfolding taking.taken
  can_deliver e j =
      let b = changed (taking.taken e a) (taken_well_formed e is_well_formed j) in
      (b.0, delivers (does_deliver e j b.1), ready_after b.1 refl)

  -- whatever step a close that is done is, the account stands there with the epoch closed
  pub ready_closed : {list list' m' : List ℕ} {count : ℕ} → Step m (close_epoch lots lot number list) (closed (Ok count) list') m' → Ready number lots lot m' (close a)
  unfolding close
  ready_closed (closes w) = ready_after (w.closed.0, (w.closed.1 a r.here.held).0) refl

  -- close is lent a list of 512 zeros
  abbrev before : List ℕ
  before = replicate 512 0

  abbrev after : List ℕ
  after = pairs (listed a) ++ drop (2 * length (listed a)) before

  does_close : {m' : List ℕ} → judge_close a ≡ Ok tt → Becomes lot m m' (holds (close a)) → EpochClosed m m' lots lot number before after (Ok (length (listed a)))
  unfolding close_answer judge_room
  does_close j w = record { answer = rw (is_found, j); closed = (w.0, λ c v. (w.1 ∙ rw (← same_account c v), rw (← same_account c v))) }

  can_close : judge_close a ≡ Ok tt → (m' : List ℕ) × Step m (close_epoch lots lot number before) (closed (Ok (length (listed a))) after) m' × Ready number lots lot m' (close a)
  unfolding close
  can_close j =
      let b = changed (close a) (closed_well_formed is_well_formed j) in
      (b.0, closes (does_close j b.1), ready_after b.1 refl)

  -- save is lent room for the longest image
  pub can_save : (buffer : List ℕ) → LONGEST_IMAGE ≤ length buffer → Step m (save_account lots lot number buffer) (saved (Ok (length (image a))) (image a ++ drop (length (image a)) buffer)) m
  unfolding save_answer
  can_save buffer room = saves (record { answer = answer; saved = λ c v. ap (λ b. image b ++ drop (length (image a)) buffer) (same_account c v) })
    where
      answer : Ok (length (image a)) ≡ save_answer m lots lot number buffer
      answer = rw (is_found, le-ltb (length buffer) LONGEST_IMAGE room)

-- ---- whatever step it is, what close, read and save are answered there

module _ {number lots lot : ℕ} {m : List ℕ} {a : Account} (here : Ready number lots lot m a) where
  pub closes_as : {m' : List ℕ} {r : Reply} (list : List ℕ) → LEAST_LIST ≤ length list → judge_close a ≡ Ok tt → Step m (close_epoch lots lot number list) r m' → (list' : List ℕ) × Step m (close_epoch lots lot number list) (closed (Ok (length (listed a))) list') m'
  unfolding close_answer judge_room
  closes_as list room j (closes {list' = list'} {r = o} w) =
      let e : o ≡ Ok (length (listed a)) = w.answer ∙ rw (is_found here, le-ltb (length list) LEAST_LIST room, j) in
      (list', closes (rw e at w))

  pub reads_as : {m' : List ℕ} {r : Reply} (i k : ℕ) → i < a.fragments → k < a.keys → Step m (read_record lots lot number i k) r m' → r ≡ runs.found (Ok (found_of ((a.at i).records k)))
  unfolding read_answer
  reads_as i k f l (reads w) = ap runs.found (w ∙ rw (is_found here, lt-ltb i a.fragments f, lt-ltb k a.keys l))

  pub saves_as : {m' : List ℕ} {r : Reply} (buffer : List ℕ) → LONGEST_IMAGE ≤ length buffer → Step m (save_account lots lot number buffer) r m' → (buffer' : List ℕ) × (r ≡ saved (Ok (length (image a))) buffer')
  unfolding save_answer
  saves_as buffer room (saves {buffer' = buffer'} w) = (buffer', ap (λ o. saved o buffer') (w.answer ∙ rw (is_found here, le-ltb (length buffer) LONGEST_IMAGE room)))

-- ---- a whole run

-- a run, from a memory in which account a stands in its lot, whose calls of the account had these entries accepted and these epochs closed
pub record Reached (number lots lot : ℕ) (ss : List model.Step) (a : Account) (m : List ℕ) : Type 0 where
  pub turns : List Turn
  pub after : List ℕ
  pub runs : Run m turns after
  pub kept : Kept number lot turns
  pub steps : steps_in number lot turns ≡ ss
  pub ready : Ready number lots lot after (run ss a)

module _ (number lots lot : ℕ) where
  own_call : names number lot lot number ≡ true
  own_call = rw (eq-eqb lot lot refl, eq-eqb number number refl)

  pub reach : (ss : List model.Step) {a : Account} {m : List ℕ} → Ready number lots lot m a → Allowed ss a → Reached number lots lot ss a m
  unfolding Allowed Kept is_own is_end own_turns steps_of run
  reach [] {m = m} r l = record { turns = []; after = m; runs = ends; kept = tt; steps = refl; ready = r }
  reach (model.taking e ∷ ss) r l =
      let s = can_deliver r e l.0 in
      let w = reach ss s.2 l.1 in
      record {
        turns = record { call = deliver lots lot number (entry16 e); reply = outcome (Ok tt) } ∷ w.turns;
        after = w.after;
        runs = goes s.1 w.runs;
        kept = (refl, w.kept);
        steps = rw (own_call, entry_back e, w.steps);
        ready = w.ready;
      }
  reach (model.closing ∷ ss) {a = a} r l =
      let s = can_close r l.0 in
      let w = reach ss s.2 l.1 in
      record {
        turns = record { call = close_epoch lots lot number (before r); reply = closed (Ok (length (listed a))) (after r) } ∷ w.turns;
        after = w.after;
        runs = goes s.1 w.runs;
        kept = (refl, w.kept);
        steps = rw (own_call, w.steps);
        ready = w.ready;
      }

-- an opening that is answered this lot, and then the entries and closes
pub record ReachedRun (number f k lots lot : ℕ) (ss : List model.Step) : Type 0 where
  pub turns : List Turn
  pub after : List ℕ
  pub opened_run : OpenedRun number f k lot turns after
  pub steps : steps_in number lot turns ≡ ss
  pub ready : Ready number lots lot after (run ss (fresh number f k))

-- from any memory in which the opening is answered this lot
pub every_run : (m : List ℕ) (number f k lots lot : ℕ) (ss : List model.Step) → Ok lot ≡ open_answer m lots number f k → Allowed ss (fresh number f k) → ReachedRun number f k lots lot ss
unfolding fresh lot_fits
every_run m number f k lots lot ss e l =
    let p = opened_placed m lots number f k e in
    let there : lot_fits lots lot m ≡ true = and p.0.fits (lt-ltb lot lots p.0.there) in
    let b = becomes m lot (holds (fresh number f k)) (lot_inside lots lot m there) (lot_with (fresh number f k) (fresh_well_formed number f k p.1)) in
    let w = reach number lots lot ss (record { there = still_there lots lot m b.0 b.1.0.long there; here = record { held = b.1.1; numbered = refl } }) l in
    record {
      turns = w.turns;
      after = w.after;
      opened_run = record { m = m; lots = lots; runs = goes (opens (record { answer = e; opened = b.1 })) w.runs; kept = w.kept };
      steps = w.steps;
      ready = w.ready;
    }

-- ---- at the end of every run that opens the account

run_long : {m m' : List ℕ} {ts : List Turn} → Run m ts m' → length m' ≡ length m
run_long ends = refl
run_long (goes s w) = run_long w ∙ length_kept s

-- the account stands there, by the lot count with which it was opened
pub opened_ready : {number f k lot : ℕ} {ts : List Turn} {m' : List ℕ} (o : OpenedRun number f k lot ts m') → Ready number o.lots lot m' (run (steps_in number lot ts) (fresh number f k))
unfolding fresh lot_fits
opened_ready {number} {f} {k} {lot} {ts} {m'} o = record {
  there = still_there o.lots lot o.m m' (run_long o.runs) (first o.runs);
  here = record { held = (opened_followed o).held; numbered = run_number (steps_in number lot ts) (fresh number f k) };
}
  where
    first : {m₂ : List ℕ} → Run o.m (record { call = open_account o.lots number f k; reply = opened (Ok lot) } ∷ ts) m₂ → lot_fits o.lots lot o.m ≡ true
    first (goes (opens w) us) = let p = opened_placed o.m o.lots number f k w.answer in and p.0.fits (lt-ltb lot o.lots p.0.there)

-- so a save with room for the longest image is answered its length
pub save_answered : {number f k lot : ℕ} {ts : List Turn} {m' m'' : List ℕ} {r : Reply} (o : OpenedRun number f k lot ts m') (buffer : List ℕ) → LONGEST_IMAGE ≤ length buffer → Step m' (save_account o.lots lot number buffer) r m''
    → (buffer' : List ℕ) × (r ≡ saved (Ok (length (image (run (steps_in number lot ts) (fresh number f k))))) buffer')
save_answered o buffer room s = saves_as (opened_ready o) buffer room s
