-- A section that is written anew.
use Rattle.std.specs.Prelude.{ℕ, ◌<◌, ◌≡◌, List, length}
use Rattle.survivors.specs.declared.Rewritten.{Rewritten}

-- it has room for the place r after its others
pub record Room (s : Rewritten) (r : List ℕ) : Type 0 where
  pub size : length s.section.now ≡ 5120
  pub few : s.count < 256
  pub whole : length r ≡ 20
