-- An account in its lot, memories that agree on a lot, and runs that make the same calls of one account.
use Rattle.std.specs.Prelude.{ℕ, ◌≡◌, List, length}
use Rattle.model.specs.Account.{Account}
use Rattle.lot.specs.View.{holds}
use Rattle.lots.specs.Memory.{view_of}
use Rattle.promises.specs.Runs.{Turn}
use Rattle.promises.specs.Own.{Kept, own_turns, calls_of}

-- this lot of the memory m, undamaged, holds account a, and this is its number
pub record Holding (number lot : ℕ) (m : List ℕ) (a : Account) : Type 0 where
  pub held : view_of m lot ≡ holds a
  pub numbered : a.number ≡ number

-- two memories are equally long, and this lot means the same in both: it is free, damaged, or holds one account
pub record Agree (lot : ℕ) (m₁ m₂ : List ℕ) : Type 0 where
  pub long : length m₂ ≡ length m₁
  pub same : view_of m₂ lot ≡ view_of m₁ lot

-- two runs, from memories that agree on this lot: there the account with this number is open, no call that is done in either ends it, and its own calls are the same, in the same order
pub record SameOwnCalls (number lot : ℕ) (m₁ m₂ : List ℕ) (ts₁ ts₂ : List Turn) : Type 0 where
  pub account : Account
  pub open_there : Holding number lot m₁ account
  pub agree : Agree lot m₁ m₂
  pub kept₁ : Kept number lot ts₁
  pub kept₂ : Kept number lot ts₂
  pub own_calls : calls_of (own_turns number lot ts₂) ≡ calls_of (own_turns number lot ts₁)

-- their own calls are answered alike, lists and buffers included, and at their ends the account is open there, the same in both
pub record AnsweredAlike (number lot : ℕ) (m₁ m₂ : List ℕ) (ts₁ ts₂ : List Turn) : Type 0 where
  pub same_own_turns : own_turns number lot ts₂ ≡ own_turns number lot ts₁
  pub account : Account
  pub open_there : Holding number lot m₁ account
  pub agree : Agree lot m₁ m₂
