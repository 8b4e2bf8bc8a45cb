-- Saving and loading by the calls: what is supposed of a save and a later load, or of a load and a later save, and what then follows. The two may come from different memories and runs.
use Rattle.std.specs.Prelude.{ℕ, ◌≤◌, ◌<◌, ◌≡◌, ◌≢◌, true, List, ◌++◌, length, take, Result, Ok}
use Rattle.model.specs.Account.{Account}
use Rattle.model.specs.Image.{LONGEST_IMAGE}
use Rattle.model.specs.Decoding.{last_of}
use Rattle.model.specs.declared.Refusal.{Refusal}
use Rattle.trailer.specs.Trailer.{numbers_of}
use Rattle.lot.specs.View.{free, damaged, holds}
use Rattle.lots.specs.Memory.{memory_fits, lot_fits, view_of, OnlyLot, is_free, Lowest}
use Rattle.standby.specs.Images.{AccountSaved, AccountLoaded}

-- ---- a call of save and a call of load: what was lent before and after, the numbers given, the answer; and that the call kept its contract

pub record SaveCall : Type 0 where
  pub memory : List ℕ
  pub lots : ℕ
  pub lot : ℕ
  pub account : ℕ
  pub buffer_before : List ℕ
  pub buffer_after : List ℕ
  pub answer : Result ℕ Refusal
  pub kept : AccountSaved memory lots lot account buffer_before buffer_after answer

pub record LoadCall : Type 0 where
  pub memory_before : List ℕ
  pub memory_after : List ℕ
  pub lots : ℕ
  pub given : List ℕ
  pub answer : Result ℕ Refusal
  pub kept : AccountLoaded memory_before memory_after lots given answer

-- the save was done, and this is the image that it wrote
pub record Wrote (s : SaveCall) (written : List ℕ) : Type 0 where
  pub length_answered : s.answer ≡ Ok (length written)
  pub in_front : take (length written) s.buffer_after ≡ written

-- the data end with these bytes; longer data may stand before them
pub record EndsWith (given written : List ℕ) : Type 0 where
  pub front : List ℕ
  pub ends : given ≡ front ++ written

-- ---- a saved image loads to the account it was saved from

-- that account isn't open, a lot is free and none is damaged
pub record RoomFor (memory : List ℕ) (lots account : ℕ) : Type 0 where
  pub fits : memory_fits lots memory ≡ true
  pub not_open : (i : ℕ) → i < lots → (a : Account) → view_of memory i ≡ holds a → a.number ≢ account
  pub free_lot : ℕ
  pub is_there : free_lot < lots
  pub lot_is_free : view_of memory free_lot ≡ free
  pub none_damaged : (i : ℕ) → i < lots → view_of memory i ≢ damaged

-- the answer is the free lot with the lowest number, which holds the account that was saved; every other byte stays
pub record LoadedBack (s : SaveCall) (l : LoadCall) : Type 0 where
  pub lot : ℕ
  pub answered : l.answer ≡ Ok lot
  pub lowest_free : Lowest (λ i. is_free (view_of l.memory_before i)) l.lots lot
  pub account : Account
  pub saved_from : view_of s.memory s.lot ≡ holds account
  pub loaded_to : view_of l.memory_after lot ≡ holds account
  pub elsewhere : OnlyLot lot l.memory_before l.memory_after

-- ---- an accepted image saves to the same bytes

-- the lot and the account that the save names hold what the load left, and the buffer has room for the longest image
pub record SaveOfLoaded (l : LoadCall) (s : SaveCall) : Type 0 where
  pub lot : ℕ
  pub loaded : l.answer ≡ Ok lot
  pub unchanged : view_of s.memory s.lot ≡ view_of l.memory_after lot
  pub there : lot_fits s.lots s.lot s.memory ≡ true
  pub own_account : (a : Account) → view_of s.memory s.lot ≡ holds a → a.number ≡ s.account
  pub room : LONGEST_IMAGE ≤ length s.buffer_before

pub record SavedBack (l : LoadCall) (s : SaveCall) : Type 0 where
  pub written : List ℕ
  pub wrote : Wrote s written
  pub same_bytes : EndsWith l.given written

-- ---- load reads no more than the image

-- the bytes are at least as many as their trailer's length says
pub record WholeImage (last : List ℕ) : Type 0 where
  pub trailer : 24 ≤ length last
  pub as_many : (numbers_of (last_of 24 last)).length ≤ length last
