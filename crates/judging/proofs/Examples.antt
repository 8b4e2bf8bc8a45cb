-- The two examples of docs/IMAGE.md are accepted. Assumes nothing.
use mathlib.Core.Path.{◌≡◌, refl}
use mathlib.Core.Bool.{true}
use mathlib.Core.List.{[], ◌∷◌}
use Rattle.wire.specs.Numbers.{number16, number32, bytes16, bytes32}
use Rattle.model.specs.Lists.{every, all}
use Rattle.model.specs.Account.{account_fits}
use Rattle.model.specs.Entry.{fields_fit, in_account}
use Rattle.model.specs.Stages.{stage_after, stage_from, takes}
use Rattle.model.specs.Accepting.{entry_fits, follows}
use Rattle.model.specs.Image.{stream8, record8, held20, each, trailer24, body, bytes}
use Rattle.model.specs.Decoding.{counters_of, present_of, item_of, parse, last_of, decode_with, decode, mine, item_fits, held_fits, records_fit, form_fits, same, accepts}

fresh_accepted : accepts (0 ∷ 0 ∷ 0 ∷ 0 ∷ 1 ∷ 0 ∷ 0 ∷ 0 ∷ 7 ∷ 0 ∷ 1 ∷ 0 ∷ 4 ∷ 0 ∷ 0 ∷ 0 ∷ 0 ∷ 0 ∷ 0 ∷ 0 ∷ 0 ∷ 0 ∷ 0 ∷ 0 ∷ 32 ∷ 0 ∷ 0 ∷ 0 ∷ 69 ∷ 80 ∷ 66 ∷ 49 ∷ []) ≡ true
unfolding accepts form_fits decode decode_with last_of parse counters_of present_of item_of number16 number32 every account_fits all records_fit held_fits item_fits entry_fits follows fields_fit in_account mine takes stage_from stage_after same bytes body each stream8 record8 held20 trailer24 bytes16 bytes32
fresh_accepted = refl

flagged_accepted : accepts (3 ∷ 0 ∷ 0 ∷ 0 ∷ 2 ∷ 0 ∷ 0 ∷ 0 ∷ 3 ∷ 0 ∷ 0 ∷ 0 ∷ 2 ∷ 0 ∷ 0 ∷ 0 ∷ 0 ∷ 0 ∷ 0 ∷ 0 ∷ 10 ∷ 0 ∷ 0 ∷ 0 ∷ 1 ∷ 0 ∷ 2 ∷ 0 ∷ 30 ∷ 0 ∷ 0 ∷ 0 ∷ 3 ∷ 1 ∷ 0 ∷ 0 ∷ 1 ∷ 0 ∷ 0 ∷ 0 ∷ 0 ∷ 0 ∷ 0 ∷ 1 ∷ 0 ∷ 0 ∷ 0 ∷ 0 ∷ 1 ∷ 0 ∷ 0 ∷ 0 ∷ 7 ∷ 0 ∷ 2 ∷ 0 ∷ 4 ∷ 0 ∷ 2 ∷ 0 ∷ 1 ∷ 0 ∷ 0 ∷ 0 ∷ 1 ∷ 0 ∷ 0 ∷ 0 ∷ 76 ∷ 0 ∷ 0 ∷ 0 ∷ 69 ∷ 80 ∷ 66 ∷ 49 ∷ []) ≡ true
unfolding accepts form_fits decode decode_with last_of parse counters_of present_of item_of number16 number32 every account_fits all records_fit held_fits item_fits entry_fits follows fields_fit in_account mine takes stage_from stage_after same bytes body each stream8 record8 held20 trailer24 bytes16 bytes32
flagged_accepted = refl
