-- The worked case of docs/RULES.md as a run of calls, and the same entries and closes in another order as a second run: so the premises of demand 3 are met, both halves. Assumes nothing.
use Rattle.std.specs.Prelude.{Ok}
use Prim.Native.Nat.{ℕ, zero, suc, ◌≤◌}
use mathlib.Core.Path.{◌≡◌, refl, sym, ◌∙◌}
use mathlib.Core.List.{List, [], ◌∷◌, ◌++◌}
use native.Mathlib.Omega.{arith}
use lib.ListN.{length, drop, replicate, length-replicate}
use Rattle.model.specs.Lists.{every, filter, any, sum_below, bits_of}
use Rattle.model.specs.Entry.{CC, CP, fields_fit, fits, in_account, inside}
use Rattle.model.specs.Distance.{distance}
use Rattle.model.specs.Account.{account_fits, fresh, held_count}
use Rattle.model.specs.Stages.{stage_after, stage_from, takes}
use Rattle.model.specs.Taking.{judge_entry, stepped, hold, take, taken}
use Rattle.model.specs.Closing.{missing, judge_close, upto, verdict, committed, pieces, left, survivors, settle, close}
use Rattle.model.specs.Decoding.{same}
use Rattle.model.specs.Image.{image, LONGEST_IMAGE}
use Rattle.model.specs.Runs.{Step, taking, closing, run, Allowed, log, closings}
use Rattle.model.proofs.Runs.{log_outside}
use Rattle.model.proofs.Cases.{put, prepare, commit, mark, start, piece, worked, worked_is, worked_allowed}
use Rattle.model.proofs.WorkedLog.{worked_log, worked_follows}
use Rattle.lot.specs.Layout.{FREE}
use Rattle.lot.specs.View.{free, view, view_lot}
use Rattle.lots.specs.Memory.{memory_fits, view_of, some_below, lowest_below}
use Rattle.standby.specs.Calls.{place_for, open_answer}
use Rattle.promises.specs.Followed.{lists_in, SameAccepted}
use Rattle.promises.specs.Images.{SameImage}
use Rattle.promises.specs.Primary.{FollowsPrimary}
use Rattle.promises.proofs.Following.{opened_followed}
use Rattle.promises.proofs.Reached.{ReachedRun, every_run, can_save}
use Rattle.promises.proofs.Order.{equal_images}

-- one free lot
abbrev pub memory : List ℕ
memory = FREE ++ replicate 10316 0

lot_is_free : view_of memory 0 ≡ free
unfolding view_of view_lot view same
lot_is_free = refl

pub opens_there : Ok 0 ≡ open_answer memory 1 7 2 4
unfolding open_answer place_for memory_fits every account_fits some_below lowest_below
opens_there = rw lot_is_free

pub worked_run : ReachedRun 7 2 4 1 0 worked
worked_run = every_run memory 7 2 4 1 0 worked opens_there worked_allowed

-- ---- the second half of demand 3

-- the primary wrote what the case takes
pub worked_primary : FollowsPrimary 7 0 2 worked_run.turns (log worked)
worked_primary = record { first_part = λ i l. rw worked_run.steps (worked_follows.first_part i l); rules = worked_log }

-- what the closes of the run wrote
pub worked_lists : lists_in 7 0 worked_run.turns ≡ (piece 0 1 ∷ piece 1 1 ∷ []) ∷ (piece 1 2 ∷ []) ∷ []
worked_lists = (opened_followed worked_run.opened_run).listed ∙ rw worked_run.steps (cc worked_is)

-- ---- the first half: stream 1 first, then stream 0, then both closes

abbrev otherwise : List Step
otherwise =
    taking (put 1 0 1 2 30) ∷ taking (prepare 1 1 1 0) ∷ taking (put 1 2 2 3 40) ∷ taking (mark 1 3 1) ∷ taking (commit CP 1 4 1) ∷ taking (commit CC 1 5 2) ∷ taking (mark 1 6 2)
    ∷ taking (put 0 0 1 0 10) ∷ taking (commit CC 0 1 1) ∷ taking (mark 0 2 1) ∷ taking (mark 0 3 2)
    ∷ closing ∷ closing ∷ []

otherwise_allowed : Allowed otherwise start
unfolding Allowed judge_entry judge_close missing fresh taken take stepped hold close settle committed verdict upto filter any survivors left pieces stage_after stage_from takes fits fields_fit inside in_account every distance sum_below bits_of held_count
otherwise_allowed = (refl, (refl, (refl, (refl, (refl, (refl, (refl, (refl, (refl, (refl, (refl, (refl, (refl, tt)))))))))))))

pub other_run : ReachedRun 7 2 4 1 0 otherwise
other_run = every_run memory 7 2 4 1 0 otherwise opens_there otherwise_allowed

same_logs : (i : ℕ) → log worked i ≡ log otherwise i
unfolding log fresh
same_logs zero = refl
same_logs (suc zero) = refl
same_logs (suc (suc i)) = log_outside worked start worked_allowed (suc (suc i)) (omega arith) ∙ sym (log_outside otherwise start otherwise_allowed (suc (suc i)) (omega arith))

pub worked_twice : SameAccepted 7 0 0 worked_run.turns other_run.turns
unfolding closings
worked_twice = record { entries = λ i. rw (worked_run.steps, other_run.steps) (same_logs i); epochs = rw (worked_run.steps, other_run.steps) }

-- so saves at their ends, which are answered, write the same image
abbrev buffer : List ℕ
buffer = replicate 13400 0

room : LONGEST_IMAGE ≤ length buffer
room = omega (arith, length-replicate {A = ℕ} 13400 0)

abbrev written : List Step → List ℕ
written ss = image (run ss start) ++ drop (length (image (run ss start))) buffer

pub worked_images : SameImage (length (image (run worked start))) (length (image (run otherwise start))) (written worked) (written otherwise)
worked_images = equal_images worked_run.opened_run other_run.opened_run worked_twice (can_save worked_run.ready buffer room) (can_save other_run.ready buffer room)
