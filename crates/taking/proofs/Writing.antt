-- One section of a lot written: the counters of a stream stepped, and an entry held. Assumes nothing.
use Prim.Native.Nat.{ℕ, ◌*◌, ◌<◌, ◌^◌}
use mathlib.Core.Path.{◌≡◌, ap, ◌∙◌}
use mathlib.Core.Bool.{Bool}
use mathlib.Core.List.{List, ◌++◌}
use lib.ListN.{length, take, drop}
use Rattle.model.specs.Taking.{stepped}
use Rattle.model.specs.Decoding.{counters_of}
use Rattle.model.specs.declared.Counters.{Counters}
use Rattle.places.specs.Places.{EntryHeld}
use Rattle.lot.specs.Layout.{SIZE, streams_of, places_of}
use Rattle.writes.specs.Sections.{WithStreams}
use Rattle.lot.specs.Writing.{with_counters}
use Rattle.writes.proofs.Parts.{places_lent}
use Rattle.taking.specs.Delivering.{StreamStepped, HeldIn}

module _ (l : List ℕ) (size : length l ≡ SIZE) where
  pub held_in_law : (q : List ℕ) {bytes : List ℕ} {n o : ℕ} → length q ≡ 5120 → EntryHeld (places_of l) q n bytes o → HeldIn l (take 80 l ++ (q ++ drop 5120 (drop 80 l))) n bytes o
  held_in_law q long e = let w = places_lent l q size long in record { places = rw w.places w; held = rw w.places e }

pub stream_stepped : (l l' s : List ℕ) (i : ℕ) (mark : Bool) (c d : Counters) → s ≡ streams_of l → c ≡ counters_of (drop (i * 8) s) → d ≡ stepped c mark → d.epoch < 2 ^ 32
    → WithStreams l l' (with_counters (streams_of l) i d) → StreamStepped l l' i mark c.epoch
stream_stepped l l' s i mark c d e f g small w =
    let r : c ≡ counters_of (drop (i * 8) (streams_of l)) = f ∙ rw e in
    let h : d ≡ stepped (counters_of (drop (i * 8) (streams_of l))) mark = g ∙ rw r in
    record { was = ap (λ x. x.epoch) r; small = rw h at small; streams = rw h at w }
