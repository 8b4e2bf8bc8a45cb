-- The first half of demand 3 over runs of calls: an account that was opened alike in two runs, and has had the same entries accepted in each stream and as many epochs closed, is the same account, in whichever order the calls came and in whichever lots; the saved images and the lists are equal. Assumes nothing.
use Rattle.std.specs.Prelude.{Ok}
use Prim.Native.Nat.{ℕ}
use mathlib.Core.Path.{◌≡◌, sym, ap, ◌∙◌}
use mathlib.Core.List.{List}
use Rattle.model.specs.Account.{Account}
use Rattle.model.specs.Runs.{run}
use Rattle.model.proofs.Runs as model
use Rattle.lot.specs.View.{holds}
use Rattle.lots.specs.Memory.{view_of}
use Rattle.promises.specs.Runs.{save_account, saved, Step, Turn}
use Rattle.promises.specs.Images.{SameImage}
use Rattle.promises.specs.Followed.{steps_in, lists_in, Followed, OpenedRun, SameAccepted}
use Rattle.promises.proofs.Answered.{save_shows, same_image}
use Rattle.promises.proofs.Following.{opened_followed}

-- ---- from one account on, in whichever memories and lots it stood

module _ {number lot₁ lot₂ : ℕ} {ts₁ ts₂ : List Turn} {m₁ m₂ : List ℕ} {a : Account} (one : Followed number lot₁ ts₁ a m₁) (other : Followed number lot₂ ts₂ a m₂) (same : SameAccepted number lot₁ lot₂ ts₁ ts₂) where
  same_runs : run (steps_in number lot₁ ts₁) a ≡ run (steps_in number lot₂ ts₂) a
  same_runs = model.same_runs _ _ a one.allowed other.allowed same.entries same.epochs

  pub same_account_on : view_of m₁ lot₁ ≡ view_of m₂ lot₂
  same_account_on = one.held ∙ ap holds same_runs ∙ sym other.held

  pub same_lists_on : lists_in number lot₁ ts₁ ≡ lists_in number lot₂ ts₂
  same_lists_on = one.listed ∙ model.same_lists _ _ a one.allowed other.allowed same.entries same.epochs ∙ sym other.listed

  pub same_images_on : {lots₁ lots₂ n₁ n₂ : ℕ} {buffer₁ buffer₂ buffer₁' buffer₂' m₁' m₂' : List ℕ}
      → Step m₁ (save_account lots₁ lot₁ number buffer₁) (saved (Ok n₁) buffer₁') m₁' → Step m₂ (save_account lots₂ lot₂ number buffer₂) (saved (Ok n₂) buffer₂') m₂' → SameImage n₁ n₂ buffer₁' buffer₂'
  same_images_on {lots₁} {lots₂} s t = same_image (save_shows lots₁ lot₁ number s (one.held ∙ ap holds same_runs)) (save_shows lots₂ lot₂ number t other.held)

-- ---- two runs that open the account alike

module _ {number f k lot₁ lot₂ : ℕ} {ts₁ ts₂ : List Turn} {m₁ m₂ : List ℕ} (one : OpenedRun number f k lot₁ ts₁ m₁) (other : OpenedRun number f k lot₂ ts₂ m₂) (same : SameAccepted number lot₁ lot₂ ts₁ ts₂) where
  pub equal_accounts : view_of m₁ lot₁ ≡ view_of m₂ lot₂
  equal_accounts = same_account_on (opened_followed one) (opened_followed other) same

  pub equal_lists : lists_in number lot₁ ts₁ ≡ lists_in number lot₂ ts₂
  equal_lists = same_lists_on (opened_followed one) (opened_followed other) same

  -- saves at the ends of the two runs, each with its lot count and its buffer
  pub equal_images : {lots₁ lots₂ n₁ n₂ : ℕ} {buffer₁ buffer₂ buffer₁' buffer₂' m₁' m₂' : List ℕ}
      → Step m₁ (save_account lots₁ lot₁ number buffer₁) (saved (Ok n₁) buffer₁') m₁' → Step m₂ (save_account lots₂ lot₂ number buffer₂) (saved (Ok n₂) buffer₂') m₂' → SameImage n₁ n₂ buffer₁' buffer₂'
  equal_images s t = same_images_on (opened_followed one) (opened_followed other) same s t
