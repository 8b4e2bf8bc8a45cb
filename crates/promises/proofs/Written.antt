-- A call writes in its own lot and nowhere before or after it, start alone in all lots; a refusal changes nothing lent. Assumes nothing.
use Prim.Native.Nat.{ℕ}
use mathlib.Core.Path.{◌≡◌, refl, sym, ap}
use mathlib.Core.Bool.{Bool, true, false}
use mathlib.Core.List.{List}
use lib.Dec.{eqb}
use lib.ListN.{length}
use Rattle.std.specs.Prelude.{if◌then◌else◌, Ok, Err}
use Rattle.model.specs.Lists.{upward}
use Rattle.model.specs.Answers.{refusal_numbers}
use Rattle.model.specs.declared.Refusal.{Refusal}
use Rattle.model.specs.declared.Refusal.TheVariants.{NoSuchLot, Damaged, NotThisAccount, WrongLength, Unfit, OutsideAccount, Seen, Gap, WrongMark, OutOfTurn, Full, MarkMissing, AlreadyOpen, NoFreeLot, UnfitAccount, TooShort, NotAccepted}
use Rattle.model.proofs.Tests.{no_way}
use Rattle.overview.specs.Overview.{rows_with}
use Rattle.overview.specs.declared.Row.{Row}
use Rattle.promises.specs.Runs.{Call, Reply, found, saved, overviewed, Step, starts, opens, delivers, closes, reads, saves, loads, drops, overviews}
use Rattle.promises.specs.Written.{is_done, Where, nowhere, in_lot, in_all_lots, writes, Elsewhere, lent_to, left_in}
use Rattle.promises.proofs.Placing.{loaded_placed}

pub refusal_not_done : (r : Refusal) → eqb (refusal_numbers r).number 0 ≡ false
refusal_not_done NoSuchLot = refl
refusal_not_done Damaged = refl
refusal_not_done NotThisAccount = refl
refusal_not_done WrongLength = refl
refusal_not_done Unfit = refl
refusal_not_done OutsideAccount = refl
refusal_not_done Seen = refl
refusal_not_done Gap = refl
refusal_not_done WrongMark = refl
refusal_not_done OutOfTurn = refl
refusal_not_done Full = refl
refusal_not_done (MarkMissing streams count) = refl
refusal_not_done AlreadyOpen = refl
refusal_not_done NoFreeLot = refl
refusal_not_done UnfitAccount = refl
refusal_not_done TooShort = refl
refusal_not_done NotAccepted = refl

-- what is refused writes nowhere
idle : (r : Refusal) (p : Where) {m m' : List ℕ} → m' ≡ m → Elsewhere (if eqb (refusal_numbers r).number 0 then p else nowhere) m m'
idle r p e = rw (refusal_not_done r) e

either_way : (b : Bool) (m : List ℕ) → Elsewhere (if b then nowhere else nowhere) m m
either_way true m = refl
either_way false m = refl

pub writes_only : {m m' : List ℕ} {c : Call} {r : Reply} → Step m c r m' → Elsewhere (writes c r) m m'
writes_only (starts {r = (Ok tt)} w) = w.freed.long
writes_only (starts {lots = lots} {r = Err s} w) = idle s _ w.freed
writes_only (opens {r = Ok i} w) = w.opened.0
writes_only (opens {r = Err s} w) = idle s _ w.opened
writes_only (delivers {r = (Ok tt)} w) = w.taken.0
writes_only (delivers {r = Err s} w) = idle s _ w.taken
writes_only (closes {r = Ok n} w) = w.closed.0
writes_only (closes {r = Err s} w) = idle s _ w.closed.0
writes_only {m} (reads {r = r} w) = either_way (is_done (found r)) m
writes_only {m} (saves {buffer' = b} {r = r} w) = either_way (is_done (saved r b)) m
writes_only (loads {lots = lots} {given = given} {r = Ok i} w) = let p = loaded_placed _ lots given w.answer in (w.loaded p.account p.shown).0
writes_only (loads {r = Err s} w) = idle s _ w.loaded
writes_only (drops {r = (Ok tt)} w) = w.freed.0
writes_only (drops {r = Err s} w) = idle s _ w.freed
writes_only {m} (overviews {rows' = rows} {r = r} w) = either_way (is_done (overviewed r rows)) m

-- ---- the memory's length stays

long_elsewhere : (p : Where) (m m' : List ℕ) → Elsewhere p m m' → length m' ≡ length m
long_elsewhere nowhere m m' e = ap length e
long_elsewhere (in_lot i) m m' w = w.long
long_elsewhere in_all_lots m m' e = e

pub length_kept : {m m' : List ℕ} {c : Call} {r : Reply} → Step m c r m' → length m' ≡ length m
length_kept {m} {m'} {c} {r} w = long_elsewhere (writes c r) m m' (writes_only w)

-- ---- a refusal changes nothing lent: memory, list, buffer, rows

no_rows : (m : List ℕ) (rows : List Row) → rows_with m rows 0 ≡ rows
unfolding upward
no_rows m rows = refl

pub refusal_changes_nothing : {m m' : List ℕ} {c : Call} {r : Reply} → Step m c r m' → is_done r ≡ false → (m' ≡ m) × (left_in r ≡ lent_to c)
refusal_changes_nothing (starts {r = (Ok tt)} w) e = no_way (sym e)
refusal_changes_nothing (starts {r = Err s} w) e = (w.freed, refl)
refusal_changes_nothing (opens {r = Ok i} w) e = no_way (sym e)
refusal_changes_nothing (opens {r = Err s} w) e = (w.opened, refl)
refusal_changes_nothing (delivers {r = (Ok tt)} w) e = no_way (sym e)
refusal_changes_nothing (delivers {r = Err s} w) e = (w.taken, refl)
refusal_changes_nothing (closes {r = Ok n} w) e = no_way (sym e)
refusal_changes_nothing (closes {r = Err s} w) e = (w.closed.0, rw w.closed.1)
refusal_changes_nothing (reads {r = r} w) e = (refl, refl)
refusal_changes_nothing (saves {r = Ok n} w) e = no_way (sym e)
refusal_changes_nothing (saves {r = Err s} w) e = (refl, rw w.saved)
refusal_changes_nothing (loads {r = Ok i} w) e = no_way (sym e)
refusal_changes_nothing (loads {r = Err s} w) e = (w.loaded, refl)
refusal_changes_nothing (drops {r = (Ok tt)} w) e = no_way (sym e)
refusal_changes_nothing (drops {r = Err s} w) e = (w.freed, refl)
refusal_changes_nothing (overviews {r = (Ok tt)} w) e = no_way (sym e)
refusal_changes_nothing {m} (overviews {rows = rows} {r = Err s} w) e = (refl, rw (w.filled, no_rows m rows))
