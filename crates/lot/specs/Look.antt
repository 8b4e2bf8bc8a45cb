-- What one look at a lot answers.
use Rattle.std.specs.Prelude.{ℕ, ◌≡◌, List, length, eqb, if◌then◌else◌, Result, Ok, Err}
use Rattle.model.specs.declared.Refusal.TheVariants as refusal
use Rattle.model.specs.declared.Refusal.{Refusal}
use Rattle.lot.specs.Layout.{SIZE, head_of}
use Rattle.lot.specs.View.{Lot, free, damaged, holds, view_lot}
use Rattle.lot.specs.Head.{numbers_of}
use Rattle.lot.specs.declared.Account.{Account}
use Rattle.lot.specs.declared.Look.{Look}
use Rattle.lot.specs.declared.Look.TheVariants.{Free, Damaged, Holds}

-- of an account the numbers in the head
abbrev pub look_as : Account → Lot → Look
look_as n free = Free
look_as n damaged = Damaged
look_as n (holds a) = Holds n

unfoldable pub look_of : List ℕ → Look
look_of l = look_as (numbers_of (head_of l)) (view_lot l)

-- the lot l has been looked at, and n are the numbers of the account that it holds
pub record Looked (l : List ℕ) (n : Account) : Type 0 where
  pub size : length l ≡ SIZE
  pub seen : look_of l ≡ Holds n

-- 2 and 3: what a call that names an account finds by a look at a lot
abbrev pub finding : Look → ℕ → Result Account Refusal
finding Free number = Err refusal.NotThisAccount
finding Damaged number = Err refusal.Damaged
finding (Holds n) number = if eqb n.number number then Ok n else Err refusal.NotThisAccount
