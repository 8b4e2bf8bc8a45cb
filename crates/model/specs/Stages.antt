-- The stage of a transaction in a stream, and the table of the kinds that each stage takes.
use Rattle.std.specs.Prelude.{ℕ, Bool, true, false, ◌||◌, List, [], ◌∷◌, leb, eqb, if◌then◌else◌}
use Rattle.model.specs.Entry.{DELETE, P, CC, CP, A}
use Rattle.model.specs.Account.{Held}
use Rattle.model.specs.declared.Stage.{Stage}
use Rattle.model.specs.declared.Stage.TheVariants.{Unheard, Writing, Prepared, Ended}

-- kinds 1 and 2 make it writing, 3 prepared, 4 to 6 ended
unfoldable pub stage_after : ℕ → Stage
stage_after kind = if leb kind DELETE then Writing else if eqb kind P then Prepared else Ended

-- the stage of transaction t from stage s on: only held entries count, and unheard means that none is held
unfoldable pub stage_from : ℕ → Stage → List Held → Stage
stage_from t s [] = s
stage_from t s (h ∷ hs) = stage_from t (if eqb h.transaction t then stage_after h.kind else s) hs

abbrev pub stage : ℕ → List Held → Stage
stage t hs = stage_from t Unheard hs

abbrev pub is_unheard : Stage → Bool
is_unheard Unheard = true
is_unheard Writing = false
is_unheard Prepared = false
is_unheard Ended = false

abbrev pub is_writing : Stage → Bool
is_writing Unheard = false
is_writing Writing = true
is_writing Prepared = false
is_writing Ended = false

abbrev pub is_prepared : Stage → Bool
is_prepared Unheard = false
is_prepared Writing = false
is_prepared Prepared = true
is_prepared Ended = false

-- an entry of this kind is taken when the transaction, in this stream, is: (put, delete, P, CC) unheard or writing; (CP) prepared; (A) writing or prepared
unfoldable pub takes : ℕ → Stage → Bool
takes kind s =
    if leb kind CC then is_unheard s || is_writing s
    else if eqb kind CP then is_prepared s
    else if eqb kind A then is_writing s || is_prepared s
    else false
