-- What each return of the overview's functions answers is what the overview owes, and two results of it are equal. Assumes nothing.
use Rattle.std.specs.Prelude.{Result, Ok, Err}
use Prim.Native.Nat.{ℕ, ◌<◌, ◌≤◌}
use mathlib.Core.Path.{◌≡◌, refl, sym, ◌∙◌}
use mathlib.Core.Bool.{true, false}
use mathlib.Core.List.{List}
use borrow.Author.Tests.{lt-ltb, le-ltb}
use Rattle.model.specs.declared.Refusal.TheVariants.{NoSuchLot, TooShort}
use Rattle.model.specs.declared.Refusal.{Refusal}
use Rattle.lot.specs.View.{Lot, free, damaged, holds}
use Rattle.lots.specs.Memory.{memory_fits}
use Rattle.lots.specs.Looks.{look_from}
use Rattle.overview.specs.Overview.{row_from, row_of, overview_answer, Overviewed}
use Rattle.overview.specs.declared.Row.{Row}

pub row_is : (v : Lot) → row_from (look_from v) ≡ row_of v
row_is free = refl
row_is damaged = refl
row_is (holds a) = refl

module _ (m : List ℕ) (lots n : ℕ) where
  pub overview_nowhere : memory_fits lots m ≡ false → Err NoSuchLot ≡ overview_answer m lots n
  unfolding overview_answer
  overview_nowhere e = rw e

  module _ (there : memory_fits lots m ≡ true) where
    pub overview_short : n < lots → Err TooShort ≡ overview_answer m lots n
    unfolding overview_answer
    overview_short h = rw (there, lt-ltb n lots h)

    pub overview_done : lots ≤ n → Ok tt ≡ overview_answer m lots n
    unfolding overview_answer
    overview_done h = rw (there, le-ltb n lots h)

-- ---- two results

pub overviewed_same : {m : List ℕ} {lots : ℕ} {rows rows₁ rows₂ : List Row} {r₁ r₂ : Result (Unit {0}) Refusal} → Overviewed m lots rows rows₁ r₁ → Overviewed m lots rows rows₂ r₂ → (r₂ ≡ r₁) × (rows₂ ≡ rows₁)
overviewed_same u w = let e = w.answer ∙ sym u.answer in (e, (rw e at w.filled) ∙ sym u.filled)
