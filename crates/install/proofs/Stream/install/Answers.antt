-- `install` installs the pieces of a stream, those with CC or CP first. Assumes nothing.
use native.Mathlib.Omega.{arith}
use lib.ListN.{length-append}
use Rattle.install.specs.declared.Sort.TheVariants.{Committed, Flagged}
use Rattle.install.specs.Stream.{sort_in}
use Rattle.install.proofs.Installing.{installed_more, room_left}
use Rattle.install.proofs.Stream.install.Goals as goal

pub install_sort-requires-2 : goal.install_sort-requires-2
install_sort-requires-2 c =
    let s = c.args.self.now in
    room_left s c.requires c.install_sort.ensures.installs (omega (arith, length-append (sort_in s Committed) (sort_in s Flagged)))

pub returns-clause-installs : goal.returns-clause-installs
returns-clause-installs c = installed_more _ _ c.install_sort.ensures.installs c.install_sort-2.ensures.installs
