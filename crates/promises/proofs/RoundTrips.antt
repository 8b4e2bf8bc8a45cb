-- Demand 2 over runs of calls, saving and loading: a saved image loads to the account it was saved from, in any memory that has room for it and whatever calls come between, and goes on alike there; an accepted image saves to the same bytes. Assumes nothing.
use Rattle.std.specs.Prelude.{Result, Ok}
use Prim.Native.Nat.{ℕ, ◌≤◌}
use mathlib.Core.Path.{◌≡◌, refl, sym, ◌∙◌}
use mathlib.Core.Bool.{true}
use mathlib.Core.List.{List}
use lib.ListN.{length, take}
use Rattle.model.specs.Image.{LONGEST_IMAGE}
use Rattle.model.specs.Runs.{run}
use Rattle.model.specs.declared.Refusal.{Refusal}
use Rattle.lot.specs.View.{holds}
use Rattle.lots.specs.Memory.{lot_fits, view_of}
use Rattle.standby.specs.Images.{AccountSaved, AccountLoaded}
use Rattle.standby.proofs.Saving.{saving}
use Rattle.standby.specs.RoundTrips.{SaveCall, LoadCall, EndsWith, RoomFor, LoadedBack, SavedBack}
use Rattle.standby.proofs.RoundTrips.{first_bytes, saved_image_loads, accepted_image_saves}
use Rattle.promises.specs.Runs.{save_account, load_account, saved, opened, Step, saves, loads, Turn, Run}
use Rattle.promises.specs.Own.{Kept}
use Rattle.promises.specs.Followed.{SameAccepted}
use Rattle.promises.specs.Images.{SameImage, KeptSinceLoad}
use Rattle.promises.proofs.Placing.{loaded_placed}
use Rattle.promises.proofs.Answered.{save_shows, same_image}
use Rattle.promises.proofs.Following.{followed}
use Rattle.promises.proofs.Order.{same_account_on}

-- ---- a step of a run, as the call whose contract it satisfies

pub save_kept : {m m' : List ℕ} {lots lot number : ℕ} {buffer buffer' : List ℕ} {r : Result ℕ Refusal} → Step m (save_account lots lot number buffer) (saved r buffer') m' → AccountSaved m lots lot number buffer buffer' r
save_kept (saves w) = w

pub load_kept : {m m' : List ℕ} {lots : ℕ} {given : List ℕ} {r : Result ℕ Refusal} → Step m (load_account lots given) (opened r) m' → AccountLoaded m m' lots given r
load_kept (loads w) = w

abbrev pub save_call : {m m' : List ℕ} {lots lot number : ℕ} {buffer buffer' : List ℕ} {r : Result ℕ Refusal} → Step m (save_account lots lot number buffer) (saved r buffer') m' → SaveCall
save_call {m} {m'} {lots} {lot} {number} {buffer} {buffer'} {r} s = record { memory = m; lots = lots; lot = lot; account = number; buffer_before = buffer; buffer_after = buffer'; answer = r; kept = save_kept s }

abbrev pub load_call : {m m' : List ℕ} {lots : ℕ} {given : List ℕ} {r : Result ℕ Refusal} → Step m (load_account lots given) (opened r) m' → LoadCall
load_call {m} {m'} {lots} {given} {r} s = record { memory_before = m; memory_after = m'; lots = lots; given = given; answer = r; kept = load_kept s }

-- ---- save, then load

-- a save in one memory that was answered n, and a load in any memory m₂; the data given end with the n bytes that the save wrote
module _ {m m₀ m₂ m₂' : List ℕ} {number lot lots lots₂ n : ℕ} {buffer buffer' given : List ℕ} {r : Result ℕ Refusal}
    (save : Step m (save_account lots lot number buffer) (saved (Ok n) buffer') m₀) (again : Step m₂ (load_account lots₂ given) (opened r) m₂') where
  pub saved_loads : EndsWith given (take n buffer') → RoomFor m₂ lots₂ number → LoadedBack (save_call save) (load_call again)
  saved_loads ends room = saved_image_loads (save_call save) (load_call again) (first_bytes (save_call save) refl) ends room

  module _ (back : LoadedBack (save_call save) (load_call again)) where
    -- a save there writes the same bytes
    pub saves_again : {lots₃ n₃ : ℕ} {buffer₃ buffer₃' m₃ : List ℕ} → Step m₂' (save_account lots₃ back.lot number buffer₃) (saved (Ok n₃) buffer₃') m₃ → SameImage n n₃ buffer' buffer₃'
    saves_again {lots₃} t = same_image (save_shows lots lot number save back.saved_from) (save_shows lots₃ back.lot number t back.loaded_to)

    own_number : back.account.number ≡ number
    own_number =
        let d = saving m lots lot number buffer (save_kept save).answer in
        let e : d.account ≡ back.account = cc (d.here.held, back.saved_from) in
        rw (← e) d.here.numbered

    -- and it goes on alike: with the same entries accepted and as many epochs closed here and there, the accounts are equal
    pub goes_on_alike : {ts ts₂ : List Turn} {m₁ m₃ : List ℕ} → Run m ts m₁ → Kept number lot ts → Run m₂' ts₂ m₃ → Kept number back.lot ts₂ → SameAccepted number lot back.lot ts ts₂ → view_of m₁ lot ≡ view_of m₃ back.lot
    goes_on_alike u k w l same = same_account_on (followed (record { held = back.saved_from; numbered = own_number }) u k) (followed (record { held = back.loaded_to; numbered = own_number }) w l) same

-- ---- load, then save

-- an accepted image saves to the same bytes: the data end with them
module _ {m m' m₂ m₃ : List ℕ} {number lots lots₂ i : ℕ} {given buffer buffer' : List ℕ} {r : Result ℕ Refusal} {ts : List Turn}
    (first : Step m (load_account lots given) (opened (Ok i)) m') (since : KeptSinceLoad number i given m' ts m₂) (save : Step m₂ (save_account lots₂ i number buffer) (saved r buffer') m₃) where
  pub loaded_saves : lot_fits lots₂ i m₂ ≡ true → LONGEST_IMAGE ≤ length buffer → SavedBack (load_call first) (save_call save)
  unfolding run
  loaded_saves there room =
      let w = load_kept first in
      let p = loaded_placed m lots given w.answer in
      let a = p.account in
      let here : view_of m' i ≡ holds a = (w.loaded a p.shown).1 in
      let n : a.number ≡ number = since.numbered a p.shown in
      let still : view_of m₂ i ≡ holds a = rw since.nothing_done at (followed (record { held = here; numbered = n }) since.runs since.kept).held in
      accepted_image_saves (load_call first) (save_call save) (record { lot = i; loaded = refl; unchanged = still ∙ sym here; there = there; own_account = λ b v. let e : a ≡ b = cc in rw (← e) n; room = room })
