-- What stands at a place of a held section, and at a stream of a list of counters. Assumes nothing.
use Prim.Native.Nat.{ℕ, zero, suc, ◌+◌, ◌*◌, ◌-◌, ◌<◌, ◌≤◌}
use mathlib.Core.Path.{◌≡◌, ap, ◌∙◌}
use mathlib.Core.Bool.{Bool, ◌&&◌, ◌||◌, and-true, and_assoc}
use mathlib.Core.List.{List, [], ◌∷◌}
use native.Mathlib.Omega.{arith}
use lib.Dec.{leb, ltb, eqb}
use lib.ListN.{get_or, drop, get_or-eq_default}
use lib.Seq.{get_or-drop}
use Rattle.wire.specs.Numbers.{number32}
use Rattle.model.specs.Lists.{every, all}
use Rattle.model.specs.Entry.{CC, A, fields_fit, in_account}
use Rattle.model.specs.Stages.{takes}
use Rattle.model.specs.Accepting.{entry_fits, follows}
use Rattle.model.specs.declared.Stage.{Stage}
use Rattle.model.specs.Account.{Held, fresh_counters}
use Rattle.model.specs.Decoding.{counters_of, counters_at, parse}
use Rattle.model.specs.Section.{item_at, plain_place}
use Rattle.lookback.specs.Places.{stage_at}
use Rattle.lookback.specs.Last.{last_before}
use Rattle.lookback.proofs.Places.{number32_drop, length_parse, get_or_parse}
use Rattle.held.specs.Place.{may_follow, in_order, flag_fits, place_fits}

module _ (h : List ℕ) (i : ℕ) where
  pub plain_is : plain_place (drop (i * 20) h) ≡ (eqb (get_or h (i * 20 + 2) 0) 0 && eqb (get_or h (i * 20 + 3) 0) 0 && eqb (get_or h (i * 20 + 10) 0) 0 && leb (get_or h (i * 20 + 11) 0) 1)
  unfolding plain_place every
  plain_is = simp (get_or-drop, and_assoc, and-true)

pub order_is : (h : List ℕ) (i : ℕ) → 0 < i → in_order h i ≡ may_follow (item_at h (i - 1)) (item_at h i)
unfolding in_order
order_is h zero l = absurd (omega arith)
order_is h (suc i) l = let z : suc i - 1 ≡ i = omega arith in rw z

module _ (l : List ℕ) (f i : ℕ) where
  pub epoch_within : i < f → (counters_at (parse f 8 counters_of l) i).epoch ≡ number32 l (i * 8 + 4)
  unfolding counters_of
  epoch_within h = ap (λ s. s.epoch) (get_or_parse 8 counters_of fresh_counters f l i h) ∙ number32_drop (i * 8) l 4

  pub epoch_outside : f ≤ i → (counters_at (parse f 8 counters_of l) i).epoch ≡ 1
  epoch_outside h = ap (λ s. s.epoch) (get_or-eq_default (parse f 8 counters_of l) fresh_counters {n = i} (omega (arith, length_parse 8 counters_of f l)))

-- ---- the tests of a place, one after the other

pub together : (a b c d : Bool) → (a && b && c && d) ≡ every (a ∷ b ∷ c ∷ d ∷ [])
unfolding every
together a b c d = simp (and_assoc, and-true)

pub entry_is : (f k i : ℕ) (x : Held) → entry_fits f k i x
    ≡ (leb x.kind A && fields_fit x.kind x.transaction x.argument x.value && in_account f k x.kind i x.argument)
unfolding entry_fits every
entry_is f k i x = simp (and_assoc, and-true)

pub turn_is : (c o : ℕ) (s : Stage) (x : Held) → follows c o [] s x
    ≡ (leb 1 x.epoch && leb x.epoch o && takes x.kind s && (ltb x.kind CC || ltb c x.epoch) && flag_fits c s x)
unfolding follows flag_fits every all
turn_is c o s x = simp (and_assoc, and-true)

pub place_is : (k c f : ℕ) (l h : List ℕ) (i : ℕ) → place_fits k c (parse f 8 counters_of l) h i
    ≡ (plain_place (drop (i * 20) h) && in_order h i && entry_fits f k (item_at h i).stream (item_at h i).entry
    && follows c (counters_at (parse f 8 counters_of l) (item_at h i).stream).epoch [] (stage_at h (last_before h i)) (item_at h i).entry)
unfolding place_fits every
place_is k c f l h i = rw (length_parse 8 counters_of f l) (simp (and_assoc, and-true))
