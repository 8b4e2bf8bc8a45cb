-- A place of a held section, and the stage that looking back says.
use Rattle.std.specs.Prelude.{ℕ, zero, suc, List}
use Rattle.model.specs.Account.{Held}
use Rattle.model.specs.Image.{Item}
use Rattle.model.specs.Section.{item_at}
use Rattle.model.specs.Stages.{stage_after}
use Rattle.model.specs.declared.Stage.{Stage}
use Rattle.model.specs.declared.Stage.TheVariants.{Unheard}
use Rattle.lookback.specs.declared.Place.{Place}

-- the place that has an item
abbrev pub place_of : Item → Place
place_of x = record {
  piece = record { fragment = x.stream; transaction = x.entry.transaction };
  kind = x.entry.kind;
  argument = x.entry.argument;
  flagged = x.entry.flagged;
  value = x.entry.value;
  epoch = x.entry.epoch;
}

-- the held entry at a place
abbrev pub held_at : Place → Held
held_at p = record {
  kind = p.kind;
  transaction = p.piece.transaction;
  argument = p.argument;
  value = p.value;
  epoch = p.epoch;
  flagged = p.flagged;
}

-- the stage that an answer of looking back says: 0 is unheard, and i + 1 what the entry at place i makes
unfoldable pub stage_at : List ℕ → ℕ → Stage
stage_at h zero = Unheard
stage_at h (suc i) = stage_after (item_at h i).entry.kind
