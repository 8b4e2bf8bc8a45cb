-- `install_sort` installs the pieces of a stream of one sort, by position. Assumes nothing.
use native.Mathlib.Omega.{arith}
use mathlib.Core.Path.{◌≡◌, refl, ◌∙◌}
use Rattle.install.proofs.Installing.{installed_none, sort_more, till_most, room_left}
use Rattle.install.proofs.Groups.{in_turn, till_start, till_end}
use Rattle.install.proofs.Stream.install_sort.Goals as goal

pub loop-i-init : goal.loop-i-init
loop-i-init c =
    let s = c.args.self.now in
    (record { records = refl; list = refl }, rw (till_start s.begins s.ends s.snapshot.now.verdicts.now c.args.sort s.start (omega arith)) (installed_none _ _ _ _ _))

pub install_at-requires-clause-room : goal.install_at-requires-clause-room
install_at-requires-clause-room c =
    let l = c.loop-i in
    let s = c.args.self.now in
    let h = s.snapshot.now.linked.now.index.held in
    room_left s c.requires l.invariant.1 (till_most s.snapshot.now.verdicts.now h.bytes.now s.fragment c.args.sort l.i h.count (omega (arith, s.ends.low)))

pub loop-i-preserved : goal.loop-i-preserved
loop-i-preserved c =
    let l = c.loop-i in
    let s = c.args.self.now in
    let k = c.install_at.ensures in
    (record { records = k.same.records ∙ l.invariant.0.records; list = k.same.list ∙ l.invariant.0.list }, sort_more _ _ _ c.args.sort l.i l.invariant.1 k.installs)

pub returns-clause-installs : goal.returns-clause-installs
returns-clause-installs c =
    let l = c.loop-i in
    let s = c.args.self.now in
    let z = in_turn s.begins s.ends in
    let e : l.i ≡ s.end = omega arith in
    rw (till_end s.begins s.ends s.snapshot.now.verdicts.now c.args.sort _ s.ends.low (omega arith), ← e) l.invariant.1
