-- One account over a run: whatever other calls come between, its lot holds at the end what the entries accepted and the epochs closed make of it in the model, and its closes wrote the model's lists. Assumes nothing.
use Prim.Native.Nat.{ℕ}
use mathlib.Core.Path.{◌≡◌, refl, sym, ap, ◌∙◌}
use mathlib.Core.Bool.{Bool, true, false, not}
use mathlib.Core.List.{List, [], ◌∷◌, ◌++◌}
use lib.Dec.{eqb}
use lib.ListN.{length}
use borrow.Author.Tests.{eqb-true}
use Rattle.std.specs.Prelude.{if◌then◌else◌, Result, Ok, Err}
use Rattle.model.specs.Entry.{LENGTH, entry_of}
use Rattle.model.specs.Account.{Account, fresh, Named, refused, found}
use Rattle.model.specs.Taking as taking
use Rattle.model.specs.Taking.{judge_entry, judge, deliver_to}
use Rattle.model.specs.Closing.{Piece, close, listed}
use Rattle.model.specs.Runs as model
use Rattle.model.specs.Runs.{run, lists, Allowed}
use Rattle.model.specs.declared.Refusal.TheVariants.{WrongLength}
use Rattle.model.proofs.Tests.{no_way, and_l, and_r}
use Rattle.model.specs.declared.Refusal.{Refusal}
use Rattle.lot.specs.View.{view_lot, holds}
use Rattle.lots.specs.Memory.{view_of, named}
use Rattle.standby.specs.Calls.{Delivered, deliver_answer, TakenBy}
use Rattle.standby.specs.Closing.{EpochClosed}
use Rattle.promises.specs.Runs as runs
use Rattle.promises.specs.Runs.{Call, open_account, close_epoch, Reply, opened, Step, starts, opens, delivers, closes, reads, saves, loads, drops, overviews, Turn, Run, ends, goes}
use Rattle.promises.specs.Own.{taken, closing, done_by, listing, listed_by, names, is_own, Kept, own_turns, steps_of, lists_of}
use Rattle.promises.specs.Holding.{Holding}
use Rattle.promises.specs.Followed.{steps_in, Followed, OpenedRun}
use Rattle.promises.specs.Closes.{ClosedByModel}
use Rattle.promises.proofs.Answered.{same_account}
use Rattle.promises.proofs.Closes.{closed_by_model, close_is_the_models}
use Rattle.promises.proofs.Isolation.{other_calls_leave}

-- ---- the model's steps, one list after another

run_append : (ss tt : List model.Step) (a : Account) → run (ss ++ tt) a ≡ run tt (run ss a)
unfolding run
run_append [] tt a = refl
run_append (model.taking e ∷ ss) tt a = run_append ss tt (taking.taken e a)
run_append (model.closing ∷ ss) tt a = run_append ss tt (close a)

lists_append : (ss tt : List model.Step) (a : Account) → lists (ss ++ tt) a ≡ lists ss a ++ lists tt (run ss a)
unfolding lists run
lists_append [] tt a = refl
lists_append (model.taking e ∷ ss) tt a = lists_append ss tt (taking.taken e a)
lists_append (model.closing ∷ ss) tt a = ap (λ l. listed a ∷ l) (lists_append ss tt (close a))

allowed_append : (ss tt : List model.Step) (a : Account) → Allowed ss a → Allowed tt (run ss a) → Allowed (ss ++ tt) a
unfolding Allowed run
allowed_append [] tt a u w = w
allowed_append (model.taking e ∷ ss) tt a u w = (u.0, allowed_append ss tt (taking.taken e a) u.1 w)
allowed_append (model.closing ∷ ss) tt a u w = (u.0, allowed_append ss tt (close a) u.1 w)

pub allowed_split : (ss us : List model.Step) (a : Account) → Allowed (ss ++ us) a → Allowed ss a × Allowed us (run ss a)
unfolding Allowed run
allowed_split [] us a w = (tt, w)
allowed_split (model.taking e ∷ ss) us a w = let r = allowed_split ss us (taking.taken e a) w.1 in ((w.0, r.0), r.1)
allowed_split (model.closing ∷ ss) us a w = let r = allowed_split ss us (close a) w.1 in ((w.0, r.0), r.1)

pub run_number : (ss : List model.Step) (a : Account) → (run ss a).number ≡ a.number
unfolding run taking.taken close
run_number [] a = refl
run_number (model.taking e ∷ ss) a = run_number ss (taking.taken e a)
run_number (model.closing ∷ ss) a = run_number ss (close a)

pub run_fragments : (ss : List model.Step) (a : Account) → (run ss a).fragments ≡ a.fragments
unfolding run taking.taken close
run_fragments [] a = refl
run_fragments (model.taking e ∷ ss) a = run_fragments ss (taking.taken e a)
run_fragments (model.closing ∷ ss) a = run_fragments ss (close a)

-- ---- one step that names the account and its lot

-- steps and lists that one turn adds
pub record Adds (lot : ℕ) (ss : List model.Step) (ls : List (List Piece)) (a : Account) (m' : List ℕ) : Type 0 where
  pub held : view_of m' lot ≡ holds (run ss a)
  pub allowed : Allowed ss a
  pub listed : ls ≡ lists ss a

judged_entry : (a : Account) (entry : List ℕ) → Ok tt ≡ judge a entry → judge_entry a (entry_of entry) ≡ Ok tt
unfolding judge
judged_entry a entry e = go (eqb (length entry) LENGTH) e
  where
    go : (b : Bool) → Ok tt ≡ (if not b then Err WrongLength else judge_entry a (entry_of entry)) → judge_entry a (entry_of entry) ≡ Ok tt
    go false e = no_way cc
    go true e = sym e

module _ (m : List ℕ) {number lot : ℕ} {a : Account} (h : Holding number lot m a) where
  delivered : {m' : List ℕ} {lots : ℕ} {entry : List ℕ} {r : Result (Unit {0}) Refusal} → Delivered m m' lots lot number entry r → Adds lot (taken entry r) [] a m'
  unfolding deliver_answer run lists Allowed
  delivered {m'} {lots} {entry} {r} w = go r (named m lots lot number) refl w.answer w.taken
    where
      go : (r : Result (Unit {0}) Refusal) (n : Named) → named m lots lot number ≡ n → r ≡ deliver_to n entry → TakenBy m m' lot entry r → Adds lot (taken entry r) [] a m'
      go (Ok _) (refused s) q e u = no_way cc
      go (Ok _) (found b) q e u = record { held = u.1 a h.held; allowed = (judged_entry a entry (e ∙ ap (λ c. judge c entry) (same_account m lots lot number h.held q)), tt); listed = refl }
      go (Err s) n q e u = record { held = rw u h.held; allowed = tt; listed = refl }

  closed : {m' : List ℕ} {lots : ℕ} {list list' : List ℕ} {r : Result ℕ Refusal} → EpochClosed m m' lots lot number list list' r → Adds lot (closing r) (listing r list') a m'
  unfolding run lists Allowed
  closed {r = Ok count} w = let c = closed_by_model m h w in record { held = c.held; allowed = (c.possible, tt); listed = ap (λ l. l ∷ []) c.pieces }
  closed {r = Err s} w = record { held = rw w.closed.0 h.held; allowed = tt; listed = refl }

  -- the other two write nothing in the memory
  unchanged : Adds lot [] [] a m
  unfolding run lists Allowed
  unchanged = record { held = h.held; allowed = tt; listed = refl }

named_both : (number lot i n : ℕ) → names number lot i n ≡ true → (i ≡ lot) × (n ≡ number)
named_both number lot i n e = (eqb-true i lot (and_l (eqb i lot) _ e), eqb-true n number (and_r (eqb i lot) _ e))

own_step : {m m' : List ℕ} {number lot : ℕ} {c : Call} {r : Reply} {a : Account} → Holding number lot m a → Step m c r m' → is_own number lot c ≡ true → Adds lot (done_by c r) (listed_by r) a m'
unfolding is_own
own_step h (starts w) o = no_way o
own_step h (opens w) o = no_way o
own_step {m} {number = number} {lot} h (delivers {lot = i} {number = n} w) o = delivered m h (let e = named_both number lot i n o in rw (e.0, e.1) at w)
own_step {m} {number = number} {lot} h (closes {lot = i} {number = n} w) o = closed m h (let e = named_both number lot i n o in rw (e.0, e.1) at w)
own_step {m} h (reads w) o = unchanged m h
own_step {m} h (saves w) o = unchanged m h
own_step h (loads w) o = no_way o
own_step h (drops w) o = no_way o
own_step h (overviews w) o = no_way o

-- ---- the whole run

module _ (number lot : ℕ) (c : Call) (r : Reply) {ts : List Turn} {a : Account} {m' : List ℕ} where
  own_turn : is_own number lot c ≡ true → Allowed (done_by c r) a → listed_by r ≡ lists (done_by c r) a → Followed number lot ts (run (done_by c r) a) m' → Followed number lot (record { call = c; reply = r } ∷ ts) a m'
  unfolding own_turns steps_of lists_of
  own_turn o u e w =
      let ss = steps_of (own_turns number lot ts) in
      let d = done_by c r in
      record {
        held = rw o (w.held ∙ ap holds (sym (run_append d ss a)));
        allowed = rw o (allowed_append d ss a u w.allowed);
        listed = rw o (rw (e, w.listed) (sym (lists_append d ss a)));
      }

  other_turn : is_own number lot c ≡ false → Followed number lot ts a m' → Followed number lot (record { call = c; reply = r } ∷ ts) a m'
  unfolding own_turns
  other_turn o w = record { held = rw o w.held; allowed = rw o w.allowed; listed = rw o w.listed }

-- a run from any memory whose lot holds the account, in which no start and no drop of it there is done
pub followed : {m m' : List ℕ} {number lot : ℕ} {ts : List Turn} {a : Account} → Holding number lot m a → Run m ts m' → Kept number lot ts → Followed number lot ts a m'
unfolding Kept own_turns steps_of lists_of run lists Allowed view_of
followed h ends k = record { held = h.held; allowed = tt; listed = refl }
followed {m' = m'} {number} {lot} {a = a} h (goes {m} {m₁} {c = c} {r = r} {ts = ts} s w) k = go (is_own number lot c) refl (λ b x. followed {a = b} x w k.1)
  where
    go : (t : Bool) → is_own number lot c ≡ t → ((b : Account) → Holding number lot m₁ b → Followed number lot ts b m') → Followed number lot (record { call = c; reply = r } ∷ ts) a m'
    go true o next =
        let x = own_step h s o in
        own_turn number lot c r o x.allowed x.listed (next (run (done_by c r) a) (record { held = x.held; numbered = run_number (done_by c r) a ∙ h.numbered }))
    go false o next = other_turn number lot c r o (next a (record { held = ap view_lot (other_calls_leave h s o k.0) ∙ h.held; numbered = h.numbered }))

-- a run that opens it
pub opened_followed : {number f k lot : ℕ} {rest : List Turn} {m' : List ℕ} → OpenedRun number f k lot rest m' → Followed number lot rest (fresh number f k) m'
unfolding fresh
opened_followed {number} {f} {k} {lot} {rest} {m'} w = go w.runs
  where
    go : Run w.m (record { call = open_account w.lots number f k; reply = opened (Ok lot) } ∷ rest) m' → Followed number lot rest (fresh number f k) m'
    go (goes (opens u) us) = followed (record { held = u.opened.1; numbered = refl }) us w.kept

-- so each close of a run is the model's: what was accepted and closed before it is the account that it closes
pub each_close : {number f k lot : ℕ} {before : List Turn} {m m' : List ℕ} {lots count : ℕ} {list list' : List ℕ} → OpenedRun number f k lot before m → Step m (close_epoch lots lot number list) (runs.closed (Ok count) list') m'
    → ClosedByModel number lot (run (steps_in number lot before) (fresh number f k)) count list list' m'
unfolding fresh
each_close {number} {f} {k} {lot} {before} o s = close_is_the_models (record { held = (opened_followed o).held; numbered = run_number (steps_in number lot before) (fresh number f k) }) s
