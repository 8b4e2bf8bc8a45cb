-- The test of a held section, stream by stream: it passes exactly if the entries rise by stream and those of each stream pass. Assumes nothing.
use Prim.Native.Nat.{ℕ, ◌<◌}
use mathlib.Core.Path.{◌≡◌, refl, sym, ap, ◌∙◌}
use mathlib.Core.Bool.{true}
use mathlib.Core.List.{List, []}
use native.Mathlib.Omega.{arith}
use lib.ListN.{length}
use Rattle.model.specs.Lists.{all}
use Rattle.model.specs.Accepting.{stream_fits}
use Rattle.model.specs.Image.{Item}
use Rattle.model.specs.Decoding.{mine, counters_at, held_fits}
use Rattle.model.specs.declared.Counters.{Counters}
use Rattle.model.proofs.Buckets.{Rising, singles, all_in, all_of}
use Rattle.model.proofs.Shows.{by_streams, held_rising}
use Rattle.model.proofs.Forms.{blocks}

-- sorted by stream, the streams below f
abbrev pub Sorted : ℕ → List Item → Type 0
Sorted f xs = Rising (λ e. e.stream) 0 f xs

module _ (k c : ℕ) (ss : List Counters) (xs : List Item) where
  abbrev pub StreamsFit : Type 0
  StreamsFit = (i : ℕ) → i < length ss → stream_fits (length ss) k i c (counters_at ss i).epoch [] (mine i xs) ≡ true

  each_stream : Sorted (length ss) xs → held_fits k c ss [] xs ≡ all (λ i. stream_fits (length ss) k i c (counters_at ss i).epoch [] (mine i xs)) (singles (λ i. i) (length ss) 0)
  unfolding all mine
  each_stream s = ap (held_fits k c ss []) (sym (by_streams (length ss) xs s)) ∙ blocks k c ss (λ i. mine i xs) (length ss) 0 [] (λ j l. (refl, refl))

  pub held_fits_law : Sorted (length ss) xs → StreamsFit → held_fits k c ss [] xs ≡ true
  held_fits_law s f = each_stream s ∙ all_of (λ i. i) _ (length ss) 0 (λ i l u. f i (omega arith))

  pub held_sorted : held_fits k c ss [] xs ≡ true → Sorted (length ss) xs
  held_sorted w = held_rising k c ss 0 [] xs (λ e a. omega arith) w

  pub streams_fit : held_fits k c ss [] xs ≡ true → StreamsFit
  streams_fit w i h = all_in (λ i. i) _ (length ss) 0 (sym (each_stream (held_sorted w)) ∙ w) i (omega arith) (omega arith)
