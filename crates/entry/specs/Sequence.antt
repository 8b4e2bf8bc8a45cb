-- Refusals 7 and 8 of a received sequence number, by the sign of its distance.
use Rattle.std.specs.Prelude.{ℕ, if◌then◌else◌, Result, Ok, Err}
use Rattle.model.specs.Distance.{distance, below_zero, above_zero}
use Rattle.model.specs.declared.Refusal.{Refusal}
use Rattle.model.specs.declared.Refusal.TheVariants.{Seen, Gap}

-- zero is due; below zero has been seen; above zero is a gap
unfoldable pub sequence_of : ℕ → ℕ → Result (Unit {0}) Refusal
sequence_of received expected =
    let d = distance received expected in
    if below_zero d then Err Seen else if above_zero d then Err Gap else Ok tt
