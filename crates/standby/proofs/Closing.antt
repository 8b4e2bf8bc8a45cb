-- What a close in a lot that is lent is answered, and what it leaves of the memory and of the list. Assumes nothing.
use Rattle.std.specs.Prelude.{Result, Ok, Err}
use Prim.Native.Nat.{ℕ, ◌+◌, ◌*◌, ◌≤◌}
use mathlib.Core.Path.{◌≡◌, refl, ◌∙◌}
use mathlib.Core.Bool.{true, false}
use mathlib.Core.List.{List}
use lib.ListN.{length, take-append-drop}
use Rattle.model.specs.Closing.{close_from}
use Rattle.model.specs.declared.Refusal.TheVariants.{NoSuchLot}
use Rattle.model.specs.declared.Refusal.{Refusal}
use Rattle.lot.specs.Layout.{SIZE}
use Rattle.lot.specs.View.{account_in}
use Rattle.closing.specs.Closing.{Left, LotClosed}
use Rattle.lots.specs.Memory.{lot_fits, view_of, named}
use Rattle.standby.specs.Closing.{close_answer, ClosedAs, EpochClosed}
use Rattle.lots.proofs.Parts.{part, part_is, left, lent}

module _ (m : List ℕ) (i : ℕ) (q : List ℕ) (inside : i * SIZE + SIZE ≤ length m) (kept : length q ≡ length (part m i)) (number : ℕ) (list list' : List ℕ) where
  pub closed_in : (r : Result ℕ Refusal) → LotClosed (part m i) q number list list' r
      → (r ≡ close_from (account_in (view_of m i) number) (length list)) × ClosedAs m (left m i q inside kept) i list list' r
  unfolding view_of
  closed_in r w = (w.answer ∙ rw (part_is m i), go r w.left)
    where
      go : (r : Result ℕ Refusal) → Left (part m i) q list list' r → ClosedAs m (left m i q inside kept) i list list' r
      go (Ok count) t = ((lent m i q inside kept refl).0, λ a v. let d = t a (rw (part_is m i) v) in ((lent m i q inside kept d.view).1, d.list_is))
      go (Err r) e = (rw (e.0, take-append-drop, take-append-drop), e.1)

module _ (m : List ℕ) (lots lot number : ℕ) (list : List ℕ) where
  pub close_nowhere : lot_fits lots lot m ≡ false → EpochClosed m m lots lot number list list (Err NoSuchLot)
  unfolding close_answer named
  close_nowhere e = record { answer = rw e; closed = (refl, refl) }

  pub epoch_closed : {m' list' : List ℕ} {r : Result ℕ Refusal} → lot_fits lots lot m ≡ true → (r ≡ close_from (account_in (view_of m lot) number) (length list)) × ClosedAs m m' lot list list' r → EpochClosed m m' lots lot number list list' r
  unfolding close_answer named
  epoch_closed e w = record { answer = w.0 ∙ rw e; closed = w.1 }
