-- Texts that are written line after line. Assumes nothing.
use Prim.Native.Nat.{ℕ, ◌+◌, ◌<◌}
use mathlib.Core.Path.{◌≡◌, ap, sym, ◌∙◌}
use mathlib.Core.List.{List, [], ◌∷◌, ◌++◌, append_assoc, append-nil}
use lib.ListN.{length, take, get_or}
use Rattle.std.proofs.lemmas.List.{take_more}
use Rattle.model.specs.Image.{each}
use native.Mathlib.Numerals.{add-one}
use native.Mathlib.Omega.{arith}
use Rattle.model.specs.Lists.{upward}
use Rattle.judging.proofs.Parts.{each_append, upward_more}

-- line after line of a list
module _ {X : Type 0} (p : X → List ℕ) (before : List ℕ) (xs : List X) where
  pub each_start : before ≡ before ++ each p (take 0 xs)
  unfolding each
  each_start = sym (append-nil before)

  pub each_more : {between after : List ℕ} (i : ℕ) (d : X) → i < length xs → between ≡ before ++ each p (take i xs) → after ≡ between ++ p (get_or xs i d) → after ≡ before ++ each p (take (i + 1) xs)
  unfolding each
  each_more i d low first second =
      second ∙ ap (λ t. t ++ p (get_or xs i d)) first ∙ append_assoc before (each p (take i xs)) (p (get_or xs i d))
      ∙ ap (λ t. before ++ t) (ap (λ t. each p (take i xs) ++ t) (sym (append-nil (p (get_or xs i d)))) ∙ sym (each_append 0 p (take i xs) (get_or xs i d ∷ [])) ∙ ap (each p) (sym (take_more xs i d low)))

module _ (p : ℕ → List ℕ) (before : List ℕ) where
  pub wrote_start : before ≡ before ++ upward 0 0 p
  unfolding upward
  wrote_start = sym (append-nil before)

  pub wrote_upward : {between after : List ℕ} (i : ℕ) → between ≡ before ++ upward i 0 p → after ≡ between ++ p i → after ≡ before ++ upward (i + 1) 0 p
  wrote_upward i first second = let z : 0 + i ≡ i = omega arith in rw (add-one, upward_more i 0 p, z) (second ∙ ap (λ t. t ++ p i) first ∙ append_assoc before (upward i 0 p) (p i))
