-- The calls of one account: those that name its lot and its number; and what a run's replies to them say was taken, closed and listed.
use Rattle.std.specs.Prelude.{ℕ, zero, suc, ◌≡◌, Bool, true, false, ◌&&◌, List, [], ◌∷◌, ◌++◌, eqb, if◌then◌else◌, Result, Ok, Err}
use Rattle.model.specs.Entry.{entry_of}
use Rattle.model.specs.Closing.{Piece}
use Rattle.model.specs.Runs as model
use Rattle.model.specs.declared.Refusal.{Refusal}
use Rattle.promises.specs.Runs.{Call, start, open_account, deliver, close_epoch, read_record, save_account, load_account, drop_account, overview, Reply, outcome, opened, closed, found, saved, overviewed, Turn}
use Rattle.promises.specs.Written.{is_done}

-- ---- what a reply says was done

abbrev pub taken : List ℕ → Result (Unit {0}) Refusal → List model.Step
taken entry (Ok _) = model.taking (entry_of entry) ∷ []
taken entry (Err r) = []

abbrev pub closing : Result ℕ Refusal → List model.Step
closing (Ok count) = model.closing ∷ []
closing (Err r) = []

-- entries accepted and epochs closed
abbrev pub done_by : Call → Reply → List model.Step
done_by (start lots) r = []
done_by (open_account lots number f k) r = []
done_by (deliver lots lot number entry) (outcome r) = taken entry r
done_by (deliver lots lot number entry) (opened r) = []
done_by (deliver lots lot number entry) (closed r list) = []
done_by (deliver lots lot number entry) (found r) = []
done_by (deliver lots lot number entry) (saved r buffer) = []
done_by (deliver lots lot number entry) (overviewed r rows) = []
done_by (close_epoch lots lot number list) (outcome r) = []
done_by (close_epoch lots lot number list) (opened r) = []
done_by (close_epoch lots lot number list) (closed r list') = closing r
done_by (close_epoch lots lot number list) (found r) = []
done_by (close_epoch lots lot number list) (saved r buffer) = []
done_by (close_epoch lots lot number list) (overviewed r rows) = []
done_by (read_record lots lot number fragment key) r = []
done_by (save_account lots lot number buffer) r = []
done_by (load_account lots given) r = []
done_by (drop_account lots lot number) r = []
done_by (overview lots rows) r = []

-- the first n pairs of a list, as pieces
unfoldable pub first_pieces : ℕ → List ℕ → List Piece
first_pieces zero l = []
first_pieces (suc n) [] = []
first_pieces (suc n) (i ∷ []) = []
first_pieces (suc n) (i ∷ t ∷ l) = record { fragment = i; transaction = t } ∷ first_pieces n l

abbrev pub listing : Result ℕ Refusal → List ℕ → List (List Piece)
listing (Ok count) list = first_pieces count list ∷ []
listing (Err r) list = []

-- the list of a close
abbrev pub listed_by : Reply → List (List Piece)
listed_by (outcome r) = []
listed_by (opened r) = []
listed_by (closed r list) = listing r list
listed_by (found r) = []
listed_by (saved r buffer) = []
listed_by (overviewed r rows) = []

-- ---- the account with this number, in this lot

module _ (number lot : ℕ) where
  abbrev pub names : ℕ → ℕ → Bool
  names i n = eqb i lot && eqb n number

  -- the call names both: deliver, close, read, save
  unfoldable pub is_own : Call → Bool
  is_own (start lots) = false
  is_own (open_account lots n f k) = false
  is_own (deliver lots i n entry) = names i n
  is_own (close_epoch lots i n list) = names i n
  is_own (read_record lots i n fragment key) = names i n
  is_own (save_account lots i n buffer) = names i n
  is_own (load_account lots given) = false
  is_own (drop_account lots i n) = false
  is_own (overview lots rows) = false

  -- the call, where it is done, ends the account there: a fresh start, and its drop
  unfoldable pub is_end : Call → Bool
  is_end (start lots) = true
  is_end (open_account lots n f k) = false
  is_end (deliver lots i n entry) = false
  is_end (close_epoch lots i n list) = false
  is_end (read_record lots i n fragment key) = false
  is_end (save_account lots i n buffer) = false
  is_end (load_account lots given) = false
  is_end (drop_account lots i n) = names i n
  is_end (overview lots rows) = false

  -- no such call is done in a run
  unfoldable pub Kept : List Turn → Type 0
  Kept [] = Unit {0}
  Kept (t ∷ ts) = ((is_end t.call && is_done t.reply) ≡ false) × Kept ts

  -- the account's own turns of a run
  unfoldable pub own_turns : List Turn → List Turn
  own_turns [] = []
  own_turns (t ∷ ts) = if is_own t.call then t ∷ own_turns ts else own_turns ts

-- ---- what the turns of one account did

-- entries accepted and epochs closed, in the order of the calls
unfoldable pub steps_of : List Turn → List model.Step
steps_of [] = []
steps_of (t ∷ ts) = done_by t.call t.reply ++ steps_of ts

-- the lists that its closes wrote
unfoldable pub lists_of : List Turn → List (List Piece)
lists_of [] = []
lists_of (t ∷ ts) = listed_by t.reply ++ lists_of ts

-- the calls of turns
unfoldable pub calls_of : List Turn → List Call
calls_of [] = []
calls_of (t ∷ ts) = t.call ∷ calls_of ts
