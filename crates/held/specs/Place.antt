-- The test of one place by itself, the place before it and the last one of its transaction; of those before it nothing else is looked at.
use Rattle.std.specs.Prelude.{ℕ, zero, suc, ◌*◌, Bool, true, not, ◌&&◌, ◌||◌, List, [], ◌∷◌, leb, ltb, eqb, length, drop}
use Rattle.model.specs.Lists.{every}
use Rattle.model.specs.Entry.{P}
use Rattle.model.specs.Account.{Held}
use Rattle.model.specs.Image.{Item}
use Rattle.model.specs.Stages.{is_unheard}
use Rattle.model.specs.Accepting.{entry_fits, follows}
use Rattle.model.specs.Decoding.{counters_at}
use Rattle.model.specs.declared.Counters.{Counters}
use Rattle.model.specs.declared.Stage.{Stage}
use Rattle.model.specs.Section.{item_at, plain_place}
use Rattle.lookback.specs.Places.{stage_at}
use Rattle.lookback.specs.Last.{last_before}

-- e may follow g: its stream is later, or it is of the same stream and no earlier epoch
unfoldable pub may_follow : Item → Item → Bool
may_follow g e = ltb g.stream e.stream || eqb g.stream e.stream && leb g.entry.epoch e.entry.epoch

unfoldable pub in_order : List ℕ → ℕ → Bool
in_order h zero = true
in_order h (suc i) = may_follow (item_at h i) (item_at h (suc i))

-- a flag stands only on a P, of an epoch already closed, with no writes held
unfoldable pub flag_fits : ℕ → Stage → Held → Bool
flag_fits c s x = not x.flagged || eqb x.kind P && leb x.epoch c && is_unheard s

-- `follows` with no entries before: their epochs are compared in `in_order`
unfoldable pub place_fits : ℕ → ℕ → List Counters → List ℕ → ℕ → Bool
place_fits k c ss h i =
    let e = item_at h i in
    every (
    plain_place (drop (i * 20) h)
    ∷ in_order h i
    ∷ entry_fits (length ss) k e.stream e.entry
    ∷ follows c (counters_at ss e.stream).epoch [] (stage_at h (last_before h i)) e.entry
    ∷ []
    )
