-- Wrong standbys that the contracts shut out: one that refuses everything, one that answers 0 always, one whose deliver does nothing, one that invents a piece count. Assumes nothing.
use Rattle.std.specs.Prelude.{Some, Result, Ok, Err}
use Prim.Native.Nat.{ℕ, ◌+◌, ◌*◌, ◌%◌, ◌≤◌}
use mathlib.Core.Path.{◌≡◌, refl, sym, ap, ◌∙◌}
use mathlib.Core.Logic.{◌≢◌}
use mathlib.Core.Bool.{true, false}
use mathlib.Core.List.{List, [], ◌∷◌, ◌++◌}
use native.Mathlib.Omega.{arith}
use lib.Dec.{eqb}
use lib.ListN.{length, drop}
use borrow.Author.Tests.{eq-eqb, le-ltb}
use Rattle.wire.specs.Numbers.{number16, number32}
use Rattle.model.specs.Lists.{every, any, filter, upward, sum_below}
use Rattle.model.specs.Entry.{entry_of, fits, fields_fit, inside, in_account}
use Rattle.model.specs.Distance.{distance}
use Rattle.model.specs.Account.{Account, fresh, account_fits, held_count, Named, refused, found}
use Rattle.model.specs.Stages.{stage_from, takes}
use Rattle.model.specs.Taking.{judge, judge_entry, stepped, hold, take, taken}
use Rattle.model.specs.Closing.{missing, judge_close, upto, verdict, committed, pieces, close, installed, listed, LEAST_LIST, judge_room, close_judged, pairs, close_from}
use Rattle.model.specs.Image.{image}
use Rattle.model.specs.Decoding.{load}
use Rattle.model.specs.declared.Entry.{Entry}
use Rattle.model.proofs.Tests.{no_way}
use Rattle.model.proofs.Image.{save_load}
use Rattle.model.specs.declared.Refusal.{Refusal}
use Rattle.lot.specs.Layout.{SIZE}
use Rattle.lot.specs.View.{free, holds}
use Rattle.lot.proofs.Views.{holds_well_formed}
use Rattle.lots.specs.Memory.{memory_fits, lot_fits, view_of, lot_of, some_below, lowest_below, named}
use Rattle.lots.proofs.Named.{holder}
use Rattle.standby.specs.Calls.{Started, start_answer, AccountOpened, open_answer, place_for, Delivered, deliver_answer}
use Rattle.standby.specs.Closing.{EpochClosed, close_answer}
use Rattle.promises.specs.Runs.{Call, start, open_account, deliver, close_epoch, Reply, outcome, opened, closed, Step, starts, opens, delivers, closes}
use Rattle.promises.specs.Written.{is_done}
use Rattle.promises.specs.Answers.{conditions, first_met}
use Rattle.promises.specs.Serving.{Standby, Serves}
use Rattle.promises.proofs.Answers.{refused_exactly}
use Rattle.promises.proofs.Lots.{zeros, length_zeros, lot_freed}
use Rattle.promises.proofs.Exist.{steps_exist}

-- ---- a right one

pub one_serves : (s : Standby) × Serves s
one_serves = (record { answers = λ m c. (steps_exist m c).0; leaves = λ m c. (steps_exist m c).1 }, λ m c. (steps_exist m c).2)

-- ---- what the step of a call is

did_start : {m m' : List ℕ} {lots : ℕ} {r : Reply} → Step m (start lots) r m' → (o : Result (Unit {0}) Refusal) × (r ≡ outcome o) × Started m m' lots o
did_start (starts {r = o} w) = (o, refl, w)

did_open : {m m' : List ℕ} {lots number f k : ℕ} {r : Reply} → Step m (open_account lots number f k) r m' → (o : Result ℕ Refusal) × (r ≡ opened o) × AccountOpened m m' lots number f k o
did_open (opens {r = o} w) = (o, refl, w)

did_deliver : {m m' : List ℕ} {lots lot number : ℕ} {entry : List ℕ} {r : Reply} → Step m (deliver lots lot number entry) r m' → (o : Result (Unit {0}) Refusal) × (r ≡ outcome o) × Delivered m m' lots lot number entry o
did_deliver (delivers {r = o} w) = (o, refl, w)

did_close : {m m' : List ℕ} {lots lot number : ℕ} {list : List ℕ} {r : Reply} → Step m (close_epoch lots lot number list) r m' → (o : Result ℕ Refusal) × (list' : List ℕ) × (r ≡ closed o list') × EpochClosed m m' lots lot number list list' o
did_close (closes {list' = l} {r = o} w) = (o, l, refl, w)

-- ---- whatever was taken shows in the image, and a close counts the pieces that it lists

next_differs : (n : ℕ) → (n + 1) % 65536 ≡ n → ⊥
next_differs n e = omega arith

taken_differs : (a : Account) (e : Entry) → taken e a ≡ a → ⊥
unfolding taken take stepped
taken_differs a e same =
    let i = e.fragment in
    let own : eqb i i ≡ true = eq-eqb i i refl in
    next_differs (a.at i).counters.next (rw own at (ap (λ x. (x.at i).counters.next) same))

pub deliver_shows : {m m' : List ℕ} {lots lot number : ℕ} {entry : List ℕ} {a b : Account}
    → Step m (deliver lots lot number entry) (outcome (Ok tt)) m' → view_of m lot ≡ holds a → view_of m' lot ≡ holds b → image b ≢ image a
unfolding view_of
deliver_shows {m} {m'} {lots} {lot} {entry = entry} {a} {b} (delivers w) v v' same =
    let t : holds (taken (entry_of entry) a) ≡ holds b = sym (w.taken.1 a v) ∙ v' in
    let from-a = save_load (holds_well_formed (lot_of m lot) v) [] in
    let from-b = save_load (holds_well_formed (lot_of m' lot) v') [] in
    let one : Some b ≡ Some a = sym from-b ∙ ap load same ∙ from-a in
    let u : taken (entry_of entry) a ≡ b = cc in
    let x : b ≡ a = cc in
    taken_differs a (entry_of entry) (u ∙ x)

pub close_counts : {m m' : List ℕ} {lots lot number : ℕ} {list list' : List ℕ} {n : ℕ} {a : Account}
    → Step m (close_epoch lots lot number list) (closed (Ok n) list') m' → view_of m lot ≡ holds a → (n ≡ length (listed a)) × (list' ≡ pairs (listed a) ++ drop (2 * n) list)
unfolding close_answer
close_counts {m} {m'} {lots} {lot} {number} {list} {list'} {n} {a} (closes w) v = (go (named m lots lot number) refl w.answer, (w.closed.1 a v).1)
  where
    counted : (b : Account) (r : Result (Unit {0}) Refusal) → Ok n ≡ close_judged r (length (listed b)) → n ≡ length (listed b)
    counted b (Ok _) e = cc
    counted b (Err t) e = no_way cc

    go : (x : Named) → named m lots lot number ≡ x → Ok n ≡ close_from x (length list) → n ≡ length (listed a)
    go (refused t) q e = no_way cc
    go (found b) q e = let h = (holder m lots lot number q).held in let s : b ≡ a = cc in counted b (judge_room b (length list)) e ∙ ap (λ c. length (listed c)) s

-- ---- a day's work, by any standby that serves: one lot; account 7 with f = 1, k = 1; CC of transaction 1, mark 1, close

abbrev account7 : Account
account7 = fresh 7 1 1

abbrev commit_bytes : List ℕ
commit_bytes = 4 ∷ 0 ∷ 0 ∷ 0 ∷ 1 ∷ 0 ∷ 0 ∷ 0 ∷ 0 ∷ 0 ∷ 0 ∷ 0 ∷ 0 ∷ 0 ∷ 0 ∷ 0 ∷ []

abbrev mark_bytes : ℕ → List ℕ
mark_bytes sequence = 7 ∷ 0 ∷ sequence ∷ 0 ∷ 1 ∷ 0 ∷ 0 ∷ 0 ∷ 0 ∷ 0 ∷ 0 ∷ 0 ∷ 0 ∷ 0 ∷ 0 ∷ 0 ∷ []

one_lot : (m : List ℕ) → length m ≡ SIZE → memory_fits 1 m ≡ true
unfolding memory_fits every
one_lot m e = rw (eq-eqb (length m) (1 * SIZE) e)

-- memory of one lot that holds a
record OneLot (m : List ℕ) (a : Account) : Type 0 where
  long : length m ≡ SIZE
  view : view_of m 0 ≡ holds a

found_there : {m : List ℕ} {a : Account} → OneLot m a → named m 1 0 a.number ≡ found a
unfolding named lot_fits
found_there {m} {a} o = rw (one_lot m o.long, o.view, eq-eqb a.number a.number refl)

takes_commit : judge account7 commit_bytes ≡ Ok tt
unfolding judge judge_entry fresh entry_of number16 number32 fits fields_fit inside in_account every distance takes stage_from held_count sum_below
takes_commit = refl

takes_mark : judge account7 (mark_bytes 0) ≡ Ok tt
unfolding judge judge_entry fresh entry_of number16 number32 fits fields_fit inside in_account every distance
takes_mark = refl

abbrev after_commit : Account
after_commit = taken (entry_of commit_bytes) account7

takes_mark_then : judge after_commit (mark_bytes 1) ≡ Ok tt
unfolding judge judge_entry fresh taken take stepped hold entry_of number16 number32 fits fields_fit inside in_account every distance
takes_mark_then = refl

-- at the mark: with nothing held, and with the commit held
abbrev idle : Account
idle = taken (entry_of (mark_bytes 0)) account7

abbrev busy : Account
busy = taken (entry_of (mark_bytes 1)) after_commit

idle_closes : (judge_close idle ≡ Ok tt) × (listed idle ≡ [])
unfolding judge_close missing fresh taken take stepped entry_of number16 number32 sum_below listed installed upto pieces filter upward
idle_closes = (refl, refl)

busy_closes : (judge_close busy ≡ Ok tt) × (listed busy ≡ record { fragment = 0; transaction = 1 } ∷ [])
unfolding judge_close missing fresh taken take stepped hold entry_of number16 number32 sum_below listed installed upto pieces filter upward verdict committed any
busy_closes = (refl, refl)

none_started : first_met (conditions [] (start 0)) ≡ 1
unfolding conditions first_met memory_fits every
none_started = refl

marked_differs : idle ≡ account7 → ⊥
unfolding fresh taken take stepped entry_of number16
marked_differs e = let n : ◌≡◌ {A = ℕ} 1 0 = ap (λ x. (x.at 0).counters.next) e in omega arith

module _ (s : Standby) (serves : Serves s) where
  starts_done : (m : List ℕ) → length m ≡ SIZE → (s.answers m (start 1) ≡ outcome (Ok tt)) × (length (s.leaves m (start 1)) ≡ SIZE) × (view_of (s.leaves m (start 1)) 0 ≡ free)
  unfolding start_answer
  starts_done m long =
      let d = did_start (serves m (start 1)) in
      let e : d.0 ≡ (Ok tt) = d.2.answer ∙ rw (one_lot m long) in
      let f = rw e at d.2.freed in
      (d.1 ∙ ap outcome e, f.long ∙ long, f.each 0 (omega arith))

  opens_done : (m : List ℕ) → length m ≡ SIZE → view_of m 0 ≡ free → (s.answers m (open_account 1 7 1 1) ≡ opened (Ok 0)) × OneLot (s.leaves m (open_account 1 7 1 1)) account7
  unfolding open_answer place_for some_below lowest_below account_fits every
  opens_done m long view =
      let d = did_open (serves m (open_account 1 7 1 1)) in
      let e : d.0 ≡ Ok 0 = d.2.answer ∙ rw (one_lot m long, view) in
      let f = rw e at d.2.opened in
      (d.1 ∙ ap opened e, record { long = f.0.long ∙ long; view = f.1 })

  deliver_done : (m : List ℕ) (a : Account) (entry : List ℕ) → OneLot m a → judge a entry ≡ Ok tt
      → (s.answers m (deliver 1 0 a.number entry) ≡ outcome (Ok tt)) × OneLot (s.leaves m (deliver 1 0 a.number entry)) (taken (entry_of entry) a)
  unfolding deliver_answer
  deliver_done m a entry o j =
      let d = did_deliver (serves m (deliver 1 0 a.number entry)) in
      let e : d.0 ≡ (Ok tt) = d.2.answer ∙ rw (found_there o) j in
      let f = rw e at d.2.taken in
      (d.1 ∙ ap outcome e, record { long = f.0.long ∙ o.long; view = f.1 a o.view })

  close_done : (m : List ℕ) (a : Account) (list : List ℕ) → OneLot m a → judge_close a ≡ Ok tt → LEAST_LIST ≤ length list
      → (s.answers m (close_epoch 1 0 a.number list) ≡ closed (Ok (length (listed a))) (pairs (listed a) ++ drop (2 * length (listed a)) list)) × OneLot (s.leaves m (close_epoch 1 0 a.number list)) (close a)
  unfolding close_answer judge_room
  close_done m a list o j room =
      let d = did_close (serves m (close_epoch 1 0 a.number list)) in
      let e : d.0 ≡ Ok (length (listed a)) = d.3.answer ∙ rw (found_there o, le-ltb (length list) LEAST_LIST room, j) in
      let f = rw e at d.3.closed in
      let g = f.1 a o.view in
      (d.2 ∙ rw (e, g.1), record { long = f.0.long ∙ o.long; view = g.0 })

  -- memory in which account 7 was opened
  opened_there : (m : List ℕ) × OneLot m account7
  opened_there =
      let m = s.leaves lot_freed.0 (start 1) in
      let d = starts_done lot_freed.0 lot_freed.1 in
      (s.leaves m (open_account 1 7 1 1), (opens_done m d.1 d.2).1)

  delivered : {a : Account} (entry : List ℕ) → (m : List ℕ) × OneLot m a → judge a entry ≡ Ok tt → (m' : List ℕ) × OneLot m' (taken (entry_of entry) a)
  delivered {a} entry w j = (s.leaves w.0 (deliver 1 0 a.number entry), (deliver_done w.0 a entry w.1 j).1)

  -- ---- the wrong ones

  -- start on memory of one lot is done
  pub refuses_everything : ((m : List ℕ) (c : Call) → is_done (s.answers m c) ≡ false) → ⊥
  refuses_everything never = no_way (sym (never lot_freed.0 (start 1)) ∙ ap is_done (starts_done lot_freed.0 lot_freed.1).0)

  -- a lot count of 0 is refused
  pub answers_zero : ((m : List ℕ) (c : Call) → is_done (s.answers m c) ≡ true) → ⊥
  answers_zero always = no_way (sym (ap (λ n. eqb n 0) (refused_exactly (serves [] (start 0)) ∙ none_started)) ∙ always [] (start 0))

  -- a taken entry is there afterwards
  pub idle_deliver : ((m : List ℕ) (lots lot number : ℕ) (entry : List ℕ) → s.leaves m (deliver lots lot number entry) ≡ m) → ⊥
  idle_deliver stays =
      let w = opened_there in
      let after = (deliver_done w.0 account7 (mark_bytes 0) w.1 takes_mark).1 in
      let same : holds idle ≡ holds account7 = sym after.view ∙ ap (λ x. view_of x 0) (stays w.0 1 0 account7.number (mark_bytes 0)) ∙ w.1.view in
      marked_differs cc

  -- a close without pieces, and one with one piece
  pub invented_count : (count : ℕ) → ((m : List ℕ) (lots lot number : ℕ) (list : List ℕ) (n : ℕ) (list' : List ℕ) → s.answers m (close_epoch lots lot number list) ≡ closed (Ok n) list' → n ≡ count) → ⊥
  invented_count count always =
      let none = delivered (mark_bytes 0) opened_there takes_mark in
      let one = delivered (mark_bytes 1) (delivered commit_bytes opened_there takes_commit) takes_mark_then in
      let c₀ : length (listed idle) ≡ count = always none.0 1 0 idle.number (zeros 512) _ _ (close_done none.0 idle (zeros 512) none.1 idle_closes.0 (omega (arith, length_zeros 512))).0 in
      let c₁ : length (listed busy) ≡ count = always one.0 1 0 busy.number (zeros 512) _ _ (close_done one.0 busy (zeros 512) one.1 busy_closes.0 (omega (arith, length_zeros 512))).0 in
      absurd (omega (arith, c₀, c₁, ap length idle_closes.1, ap length busy_closes.1))
