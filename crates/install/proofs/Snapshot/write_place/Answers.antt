-- `write_place` applies the write of a place. Assumes nothing.
use Rattle.model.specs.Section.{item_at}
use native.Mathlib.Omega.{arith}
use mathlib.Core.Path.{ap, ◌∙◌}
use Rattle.install.proofs.Written.{write_put, write_delete}
use Rattle.install.proofs.Snapshot.write_place.Goals as goal

pub returns-then-place-eq-PUT : goal.returns-then-place-eq-PUT
returns-then-place-eq-PUT c =
    let a = c.args in
    let o = a.self.now.orderly in
    let e = c.place-place.ensures in
    write_put a.records.now (item_at _ a.i) (omega arith) (o.streams a.i (omega arith)) (o.keys a.i (omega arith) (rw e at c.if-place-gt-DELETE.false)) c.put_record.new.records (rw e at c.if-place-eq-PUT.true)
    (omega (arith, ap (λ p. p.value) e)) (c.put_record.ensures ∙ rw (c.from-key.ensures, c.from-fragment.ensures, e))

pub returns-else-place-eq-PUT : goal.returns-else-place-eq-PUT
returns-else-place-eq-PUT c =
    let a = c.args in
    let o = a.self.now.orderly in
    let e = c.place-place.ensures in
    let w = rw e at c.if-place-gt-DELETE.false in
    write_delete a.records.now (item_at _ a.i) (omega arith) (o.streams a.i (omega arith)) (o.keys a.i (omega arith) w) c.delete_record.new.records w (rw e at c.if-place-eq-PUT.false)
    (c.delete_record.ensures ∙ rw (c.from-key.ensures, c.from-fragment.ensures, e))
