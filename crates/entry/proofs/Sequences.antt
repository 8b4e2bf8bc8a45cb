-- What each judgement of a sequence number says of the distance's sign. Assumes nothing.
use Rattle.std.proofs.Common.{◌≡◌, ℕ, Bool, true, false, refl}
use Rattle.std.specs.Prelude.{if◌then◌else◌, Result, Ok, Err}
use Rattle.model.specs.Distance.{distance, below_zero, above_zero}
use Rattle.model.specs.declared.Refusal.{Refusal}
use Rattle.model.specs.declared.Refusal.TheVariants.{Seen, Gap}
use Rattle.entry.specs.Sequence.{sequence_of}

-- no other refusal is a judgement of it
abbrev pub Says : Bool → Bool → Result (Unit {0}) Refusal → Type 0
Says below above (Err Seen) = below ≡ true
Says below above (Err Gap) = (below ≡ false) × (above ≡ true)
Says below above (Ok _) = (below ≡ false) × (above ≡ false)
Says below above (Err _) = ⊥

pub says : (received expected : ℕ) → let d = distance received expected in Says (below_zero d) (above_zero d) (sequence_of received expected)
unfolding sequence_of
says received expected = go (below_zero (distance received expected)) (above_zero (distance received expected))
  where
    go : (below above : Bool) → Says below above (if below then Err Seen else if above then Err Gap else Ok tt)
    go true above = refl
    go false true = (refl, refl)
    go false false = (refl, refl)
