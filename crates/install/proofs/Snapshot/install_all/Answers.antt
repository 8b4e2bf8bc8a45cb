-- `install_all` installs the pieces of all streams. Assumes nothing.
use native.Mathlib.Omega.{arith}
use mathlib.Core.Path.{refl, ◌∙◌}
use Rattle.install.proofs.Installing.{all_none, all_more, count_most, installed_length}
use Rattle.install.proofs.Groups.{below_none}
use Rattle.install.proofs.Snapshot.install_all.Goals as goal

pub loop-fragment-init : goal.loop-fragment-init
loop-fragment-init c = (record { records = refl; list = refl }, refl, all_none _ _ _ _ _, below_none _ _)

pub install-requires : goal.install-requires
install-requires c =
    let l = c.loop-fragment in
    let s = c.args.self.now in
    let h = s.linked.now.index.held in
    let of = c.stream-stream.ensures in
    rw (of.0, of.1)
    (record {
      size = l.invariant.2.size ∙ c.requires.records;
      long = omega (arith, c.requires.list, l.invariant.1);
      few = omega (arith, c.requires.few, l.invariant.2.counted, count_most s.verdicts.now h.bytes.now h.count l.fragment c.args.fragments (omega arith));
    })

pub loop-fragment-preserved : goal.loop-fragment-preserved
loop-fragment-preserved c =
    let l = c.loop-fragment in
    let k = c.install.ensures in
    let of = c.stream-stream.ensures in (
      record { records = k.same.records ∙ l.invariant.0.records; list = k.same.list ∙ l.invariant.0.list },
      installed_length k.installs ∙ l.invariant.1,
      all_more l.invariant.2 (rw (of.0, of.1) at k.installs),
      rw (of.0, of.1) at c.stream-stream.result.ends,
    )
