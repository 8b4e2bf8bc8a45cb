-- Wrong standbys that demands 2 and 3 shut out: one whose close does nothing, one that truly installs epoch 1 and only counts later, one that saves an empty image always. Assumes nothing.
use Rattle.std.specs.Prelude.{Ok}
use Prim.Native.Nat.{ℕ, ◌≤◌}
use mathlib.Core.Path.{◌≡◌, refl, sym, ap, ◌∙◌}
use mathlib.Core.Logic.{◌≢◌}
use mathlib.Core.List.{List, [], ◌∷◌}
use native.Mathlib.Omega.{arith}
use lib.ListN.{length, replicate, length-replicate}
use Rattle.model.specs.Lists.{filter, any}
use Rattle.model.specs.Entry.{CC, CP}
use Rattle.model.specs.Account.{absent, present, Account, fresh}
use Rattle.model.specs.Taking.{stepped, hold, take, taken}
use Rattle.model.specs.Closing.{judge_close, upto, verdict, committed, pieces, left, survivors, after_writes, apply, settle, close, listed}
use Rattle.model.specs.Image.{image}
use Rattle.model.specs.Runs.{Step, taking, closing, run, Allowed}
use Rattle.model.proofs.Image.{image_length_law}
use Rattle.model.proofs.Cases.{put, prepare, commit, mark, start, worked_allowed}
use Rattle.lot.specs.Writing.{found_of}
use Rattle.lots.specs.Memory.{view_of}
use Rattle.promises.specs.Runs as calls
use Rattle.promises.specs.Runs.{close_epoch, read_record, save_account}
use Rattle.promises.specs.Holding.{Holding}
use Rattle.promises.specs.Serving.{Standby, Serves}
use Rattle.promises.proofs.Following.{allowed_split}
use Rattle.promises.proofs.Closes.{close_is_the_models}
use Rattle.promises.proofs.Reached.{ready_closed, closes_as, reads_as, saves_as, ReachedRun, every_run}
use Rattle.promises.proofs.Worked.{memory, opens_there}

-- ---- a close that does nothing

-- whichever account it is, a close that is done leaves another one
pub close_does_something : {m m' : List ℕ} {number lot lots count : ℕ} {list list' : List ℕ} {a : Account} → Holding number lot m a
    → calls.Step m (close_epoch lots lot number list) (calls.closed (Ok count) list') m' → view_of m' lot ≢ view_of m lot
unfolding close
close_does_something {a = a} h s e =
    let c = close_is_the_models h s in
    let same : close a ≡ a = cc (c.held, h.held) in
    omega (arith, ap (λ b. b.closed) same)

-- ---- the worked case up to its second close

abbrev until_second : List Step
until_second =
    taking (put 0 0 1 0 10) ∷ taking (commit CC 0 1 1) ∷ taking (mark 0 2 1) ∷ taking (mark 0 3 2)
    ∷ taking (put 1 0 1 2 30) ∷ taking (prepare 1 1 1 0) ∷ taking (put 1 2 2 3 40) ∷ taking (mark 1 3 1) ∷ closing
    ∷ taking (commit CP 1 4 1) ∷ taking (commit CC 1 5 2) ∷ taking (mark 1 6 2) ∷ []

abbrev second : Account
second = run until_second start

allowed : Allowed until_second start × Allowed (closing ∷ []) second
allowed = allowed_split until_second (closing ∷ []) start worked_allowed

can_close : judge_close second ≡ Ok tt
unfolding Allowed
can_close = allowed.1.0

was_absent : (second.at 1).records 3 ≡ absent
unfolding run fresh taken take stepped hold close settle committed verdict upto filter any survivors left pieces apply after_writes
was_absent = refl

is_written : ((close second).at 1).records 3 ≡ present 40
unfolding run fresh taken take stepped hold close settle committed verdict upto filter any survivors left pieces apply after_writes
is_written = refl

two_by_four : (second.fragments ≡ 2) × (second.keys ≡ 4) × (second.closed ≡ 1) × ((close second).fragments ≡ 2) × ((close second).keys ≡ 4)
unfolding run fresh taken close
two_by_four = (refl, refl, refl, refl, refl)

there : ReachedRun 7 2 4 1 0 until_second
there = every_run memory 7 2 4 1 0 until_second opens_there allowed.0

abbrev before : List ℕ
before = there.after

abbrev list : List ℕ
list = replicate 512 0

abbrev buffer : List ℕ
buffer = replicate 13400 0

-- ---- no standby that keeps the contracts ..

module _ (s : Standby) (serves : Serves s) where
  abbrev closed : (list' : List ℕ) × calls.Step before (close_epoch 1 0 7 list) (calls.closed (Ok (length (listed second))) list') (s.leaves before (close_epoch 1 0 7 list))
  closed = closes_as there.ready list (omega (arith, length-replicate {A = ℕ} 512 0)) can_close (serves before (close_epoch 1 0 7 list))

  -- .. has a close that does nothing,
  pub idle_close : ((m : List ℕ) (lots lot number : ℕ) (l : List ℕ) → s.leaves m (close_epoch lots lot number l) ≡ m) → ⊥
  idle_close idle = close_does_something there.ready.here closed.1 (ap (λ m. view_of m 0) (idle before 1 0 7 list))

  -- .. truly installs epoch 1 and only counts later: closes of accounts with an epoch closed leave every record as it was,
  pub counts_later : ((m : List ℕ) (lots lot number : ℕ) (l : List ℕ) (a : Account) → Holding number lot m a → 1 ≤ a.closed → (i k : ℕ)
      → s.answers (s.leaves m (close_epoch lots lot number l)) (read_record lots lot number i k) ≡ s.answers m (read_record lots lot number i k)) → ⊥
  counts_later same =
      let after = s.leaves before (close_epoch 1 0 7 list) in
      let limits = two_by_four in
      let x = reads_as there.ready 1 3 (omega (arith, limits.0)) (omega (arith, limits.1)) (serves before (read_record 1 0 7 1 3)) in
      let y = reads_as (ready_closed there.ready closed.1) 1 3 (omega (arith, limits.3)) (omega (arith, limits.4)) (serves after (read_record 1 0 7 1 3)) in
      let e : calls.found (Ok (found_of (((close second).at 1).records 3))) ≡ calls.found (Ok (found_of ((second.at 1).records 3))) = sym y ∙ same before 1 0 7 list second there.ready.here (omega (arith, limits.2)) 1 3 ∙ x in
      let f : calls.found (Ok (found_of (present 40))) ≡ calls.found (Ok (found_of absent)) = rw (is_written, was_absent) at e in
      let z : ◌≡◌ {A = ℕ} 0 1 = cc in
      omega arith

  -- .. or saves an empty image always
  pub empty_image : ((m : List ℕ) (lots lot number : ℕ) (b b' : List ℕ) (n : ℕ) → s.answers m (save_account lots lot number b) ≡ calls.saved (Ok n) b' → n ≡ 0) → ⊥
  empty_image none =
      let w = saves_as there.ready buffer (omega (arith, length-replicate {A = ℕ} 13400 0)) (serves before (save_account 1 0 7 buffer)) in
      omega (arith, none before 1 0 7 buffer w.0 (length (image second)) w.1, image_length_law second)
