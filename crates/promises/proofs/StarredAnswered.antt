-- The single claim of the table of starred lines (Starred): what is computed is what docs/RULES.md says. Assumes nothing.
use Rattle.std.specs.Prelude.{ℕ, ◌≡◌, true, false, List, [], ◌∷◌, ◌++◌, map}
use mathlib.Core.Path.{refl, sym, ◌∙◌}
use mathlib.Core.List.{map-append}
use Rattle.model.specs.Lists.{every}
use Rattle.model.specs.Account.{account_fits}
use Rattle.model.proofs.Cases.{starred_lines, starred}
use Rattle.lots.specs.Memory.{memory_fits, view_of, is_damaged, some_below}
use Rattle.standby.specs.Calls.{open_answer}
use Rattle.promises.proofs.Starred.{nine_fragments, answered_lines}

unfit : account_fits 7 9 4 ≡ false
unfolding account_fits every
unfit = refl

module _ (m : List ℕ) (lots : ℕ) where
  -- in every memory of so many lots, none of them damaged
  module _ (fits : memory_fits lots m ≡ true) (none_damaged : some_below (λ i. is_damaged (view_of m i)) lots ≡ false) where
    nine_refused : (nine_fragments m lots).computed ≡ (nine_fragments m lots).said
    unfolding open_answer
    nine_refused = rw (fits, none_damaged, unfit)

    pub starred_answered : map (λ l. l.computed) (answered_lines m lots) ≡ map (λ l. l.said) (answered_lines m lots)
    starred_answered =
        map-append (λ l. l.computed) starred_lines (nine_fragments m lots ∷ []) ∙ (λ i. starred i ++ nine_refused i ∷ [])
        ∙ sym (map-append (λ l. l.said) starred_lines (nine_fragments m lots ∷ []))
