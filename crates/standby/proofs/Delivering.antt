-- What an entry delivered to a lot that is lent is answered, and what it leaves of the memory. Assumes nothing.
use Rattle.std.specs.Prelude.{Result, Ok, Err}
use Prim.Native.Nat.{ℕ, ◌+◌, ◌*◌, ◌≤◌}
use mathlib.Core.Path.{◌≡◌, refl, ◌∙◌}
use mathlib.Core.Bool.{true, false}
use mathlib.Core.List.{List}
use lib.ListN.{length, take-append-drop}
use Rattle.model.specs.Taking.{deliver_to}
use Rattle.model.specs.declared.Refusal.TheVariants.{NoSuchLot}
use Rattle.model.specs.declared.Refusal.{Refusal}
use Rattle.lot.specs.Layout.{SIZE}
use Rattle.lot.specs.View.{account_in}
use Rattle.taking.specs.Delivering as taking
use Rattle.taking.specs.Delivering.{Left}
use Rattle.lots.specs.Memory.{lot_fits, view_of, named}
use Rattle.standby.specs.Calls.{deliver_answer, TakenBy, Delivered}
use Rattle.lots.proofs.Parts.{part, part_is, left, lent}

module _ (m : List ℕ) (i : ℕ) (q : List ℕ) (inside : i * SIZE + SIZE ≤ length m) (kept : length q ≡ length (part m i)) (number : ℕ) (bytes : List ℕ) where
  pub delivered_in : (r : Result (Unit {0}) Refusal) → taking.Delivered (part m i) q number bytes r
      → (r ≡ deliver_to (account_in (view_of m i) number) bytes) × TakenBy m (left m i q inside kept) i bytes r
  unfolding view_of
  delivered_in r w = (w.answer ∙ rw (part_is m i), go r w.left)
    where
      go : (r : Result (Unit {0}) Refusal) → Left (part m i) q bytes r → TakenBy m (left m i q inside kept) i bytes r
      go (Ok _) t = ((lent m i q inside kept refl).0, λ a v. (lent m i q inside kept (t a (rw (part_is m i) v))).1)
      go (Err r) e = rw (e, take-append-drop, take-append-drop)

module _ (m : List ℕ) (lots lot number : ℕ) (bytes : List ℕ) where
  pub deliver_nowhere : lot_fits lots lot m ≡ false → Delivered m m lots lot number bytes (Err NoSuchLot)
  unfolding deliver_answer named
  deliver_nowhere e = record { answer = rw e; taken = refl }

  pub delivered : {m' : List ℕ} {r : Result (Unit {0}) Refusal} → lot_fits lots lot m ≡ true → (r ≡ deliver_to (account_in (view_of m lot) number) bytes) × TakenBy m m' lot bytes r → Delivered m m' lots lot number bytes r
  unfolding deliver_answer named
  delivered e w = record { answer = w.0 ∙ rw e; taken = w.1 }
