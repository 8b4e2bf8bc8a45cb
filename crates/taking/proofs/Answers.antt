-- A law for each answer of delivering an entry to a lot. Assumes nothing.
use Rattle.std.specs.Prelude.{Ok, Err}
use Prim.Native.Nat.{ℕ}
use mathlib.Core.Path.{◌≡◌, refl}
use mathlib.Core.List.{List}
use Rattle.model.specs.declared.Refusal.{Refusal}
use Rattle.lot.specs.Look.{look_of, finding}
use Rattle.lot.specs.declared.Account as numbers
use Rattle.lot.proofs.Looked.{LooksHeld, finding_refused, found_held, found_named}
use Rattle.taking.specs.Delivering.{Judged, Taken, Delivered}

module _ (l bytes : List ℕ) (number : ℕ) where
  pub not_found : {r : Refusal} → finding (look_of l) number ≡ Err r → Delivered l l number bytes (Err r)
  not_found e = record { answer = rw (finding_refused l number e); left = refl }

  module _ {n : numbers.Account} (e : finding (look_of l) number ≡ Ok n) where
    abbrev h : LooksHeld l n
    h = found_held l number e

    pub refused : {why : Refusal} → Judged l bytes (Err why) → Delivered l l number bytes (Err why)
    refused j = record { answer = rw (found_named l number e) (j h.account h.holds_it); left = refl }

    pub done : (l' : List ℕ) → Judged l bytes (Ok tt) → Taken l l' bytes → Delivered l l' number bytes (Ok tt)
    done l' j t = record { answer = rw (found_named l number e) (j h.account h.holds_it); left = t }
