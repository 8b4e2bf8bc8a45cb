-- What the last place of a transaction decides, case by case. Assumes nothing.
use Prim.Native.Nat.{ℕ, zero, suc, ◌-◌, ◌<◌}
use mathlib.Core.Path.{◌≡◌}
use mathlib.Core.Bool.{Bool, true, false, ◌&&◌}
use mathlib.Core.List.{List}
use native.Mathlib.Omega.{arith}
use borrow.Author.Tests.{ne_eqb}
use lib.Dec.{leb, eqb}
use Rattle.std.specs.Prelude.{if◌then◌else◌}
use Rattle.model.specs.Entry.{P, CC, CP, A}
use Rattle.model.specs.Account.{Held, coordinator}
use Rattle.model.specs.Closing.{free, install, flag, stay}
use Rattle.model.specs.Section.{item_at}
use Rattle.lookback.specs.Last.{last_before}
use Rattle.verdicts.specs.declared.Verdict.TheVariants.{Free, Install}
use Rattle.verdicts.specs.Verdicts.{verdict_of, commits_at, flagged_at, to_flag, decided_by}

-- ---- an answer of looking back

module _ (h : List ℕ) where
  pub flagged_made : (m : ℕ) → 0 < m → flagged_at h m ≡ (item_at h (m - 1)).entry.flagged
  unfolding flagged_at
  flagged_made zero l = absurd (omega arith)
  flagged_made (suc i) l = let z : suc i - 1 ≡ i = omega arith in rw z

  pub commits_made : (e m : ℕ) → 0 < m → commits_at h e m ≡ (eqb (item_at h (m - 1)).entry.kind CC && leb (item_at h (m - 1)).entry.epoch e)
  unfolding commits_at
  commits_made e zero l = absurd (omega arith)
  commits_made e (suc i) l = let z : suc i - 1 ≡ i = omega arith in rw z

-- ---- a P to flag

module _ (d : ℕ → ℕ → Bool) (x : Held) where
  pub flag_other : (x.kind ≡ P → ⊥) → false ≡ to_flag d x
  unfolding to_flag
  flag_other n = rw (ne_eqb x.kind P n)

  pub flag_flagged : x.kind ≡ P → x.flagged ≡ true → false ≡ to_flag d x
  unfolding to_flag
  flag_flagged k f = rw (k, f)

  pub flag_asks : x.kind ≡ P → x.flagged ≡ false → d (coordinator x) x.transaction ≡ to_flag d x
  unfolding to_flag
  flag_asks k f = rw (k, f)

-- ---- the verdict

module _ (d : ℕ → ℕ → Bool) (h : List ℕ) (i : ℕ) where
  pub by_A : (item_at h i).entry.kind ≡ A → Free ≡ verdict_of (decided_by d h i)
  unfolding decided_by
  by_A k = rw k

  pub by_CC : (item_at h i).entry.kind ≡ CC → Install ≡ verdict_of (decided_by d h i)
  unfolding decided_by
  by_CC k = rw k

  pub by_CP : (item_at h i).entry.kind ≡ CP → (f : Bool) → flagged_at h (last_before h i) ≡ f → verdict_of (if f then free else install) ≡ verdict_of (decided_by d h i)
  unfolding decided_by
  by_CP k f e = rw (k, e)

  pub by_other : ((item_at h i).entry.kind ≡ A → ⊥) → ((item_at h i).entry.kind ≡ CC → ⊥) → ((item_at h i).entry.kind ≡ CP → ⊥)
      → (f : Bool) → to_flag d (item_at h i).entry ≡ f → verdict_of (if f then flag else stay) ≡ verdict_of (decided_by d h i)
  unfolding decided_by
  by_other a b c f e = let k = (item_at h i).entry.kind in rw (ne_eqb k A a, ne_eqb k CC b, ne_eqb k CP c, e)
