-- The verdict on the transaction of each place of a held section, and the place that decides it: the last one looked at.
use Rattle.std.specs.Prelude.{Option, Some, None, ℕ, zero, suc, ◌<◌, ◌≡◌, Bool, false, not, ◌&&◌, List, leb, eqb, get_or, if◌then◌else◌}
use Rattle.model.specs.Entry.{P, CC, CP, A}
use Rattle.model.specs.Account.{Held, coordinator}
use Rattle.model.specs.Closing.{upto, Verdict as ModelVerdict, free, install, flag, stay, verdict, committed}
use Rattle.model.specs.Decoding.{mine}
use Rattle.model.specs.Section.{item_at, items}
use Rattle.lookback.specs.declared.Place.{Place}
use Rattle.lookback.specs.Places.{place_of}
use Rattle.lookback.specs.Last.{last_with, is_of, last_before}
use Rattle.verdicts.specs.declared.Verdict.{Verdict}
use Rattle.verdicts.specs.declared.Verdict.TheVariants.{Free, Install, Flag, Stay}

-- ---- the verdict on the transaction of place i, by the model; n places, closing epoch e

abbrev pub held_in : List ℕ → ℕ → ℕ → List Held
held_in h n s = mine s (items n h)

unfoldable pub verdict_at : List ℕ → ℕ → ℕ → ℕ → ModelVerdict
verdict_at h n e i = verdict (committed e (held_in h n)) (upto e (held_in h n (item_at h i).stream)) (item_at h i).entry.transaction

-- the same in the code's type
abbrev pub verdict_of : ModelVerdict → Verdict
verdict_of free = Free
verdict_of install = Install
verdict_of flag = Flag
verdict_of stay = Stay

-- none of a place of a later epoch, which is not looked at
unfoldable pub answer_at : List ℕ → ℕ → ℕ → ℕ → Option Verdict
answer_at h n e i = if leb (item_at h i).entry.epoch e then Some (verdict_of (verdict_at h n e i)) else None

-- `answers` holds those of the n places
unfoldable pub Verdicts : List (Option Verdict) → List ℕ → ℕ → ℕ → Type 0
Verdicts answers h n e = (i : ℕ) → i < n → get_or answers i None ≡ answer_at h n e i

-- ---- the place that decides

-- place i is of stream s and transaction t, and looked at
unfoldable pub looked_at : List ℕ → ℕ → ℕ → ℕ → ℕ → Bool
looked_at h e s t i = is_of h s t i && leb (item_at h i).entry.epoch e

-- one more than the last such place of the stream and transaction of place i
abbrev pub decider_at : List ℕ → ℕ → ℕ → ℕ → ℕ
decider_at h n e i = last_with (looked_at h e (item_at h i).stream (item_at h i).entry.transaction) n

-- the place that looking back answers
unfoldable pub place_at : List ℕ → ℕ → Option Place
place_at h zero = None
place_at h (suc i) = Some (place_of (item_at h i))

-- stream s has CC(t), by its last place
unfoldable pub commits_at : List ℕ → ℕ → ℕ → Bool
commits_at h e zero = false
commits_at h e (suc i) = eqb (item_at h i).entry.kind CC && leb (item_at h i).entry.epoch e

unfoldable pub decides : List ℕ → ℕ → ℕ → ℕ → ℕ → Bool
decides h n e c t = commits_at h e (last_with (is_of h c t) n)

-- the entry at an answer of looking back is flagged
unfoldable pub flagged_at : List ℕ → ℕ → Bool
flagged_at h zero = false
flagged_at h (suc i) = (item_at h i).entry.flagged

-- an unflagged P whose coordinator's stream has the CC, by d
unfoldable pub to_flag : (ℕ → ℕ → Bool) → Held → Bool
to_flag d x = eqb x.kind P && not x.flagged && d (coordinator x) x.transaction

-- the verdict that place i decides
unfoldable pub decided_by : (ℕ → ℕ → Bool) → List ℕ → ℕ → ModelVerdict
decided_by d h i =
    let x = (item_at h i).entry in
    if eqb x.kind A then free
    else if eqb x.kind CC then install
    else if eqb x.kind CP then if flagged_at h (last_before h i) then free else install
    else if to_flag d x then flag
    else stay

-- going back over the places: what place i is answered, where this verdict is found for it at those after it
unfoldable pub answer_from : List ℕ → ℕ → ℕ → Option Verdict → ℕ → Option Verdict
answer_from h n e (Some v) i = Some v
answer_from h n e None i = if leb (item_at h i).entry.epoch e then Some (verdict_of (decided_by (decides h n e) h i)) else None
