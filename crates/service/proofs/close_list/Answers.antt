-- `close_list` closes with the numbers that it is lent, and writes what they then are as bytes. Assumes nothing.
use Rattle.std.specs.Prelude.{[], Ok}
use Rattle.wire.specs.Numbers.{bytes32}
use Rattle.service.proofs.Bytes.{none_yet}
use Rattle.service.proofs.Closing.{room_most, none_written, written_fits, list_closed}
use lib.ListN.{length}
use lib.Seq.{length-take-le}
use mathlib.Core.Path.{sym}
use native.Mathlib.Omega.{arith}
use borrow.Author.Rules.{rules}
use Rattle.service.proofs.close_list.Goals as goal

pub slice_bounds-close_epoch-end : goal.slice_bounds-close_epoch-end
slice_bounds-close_epoch-end c =
    let s = c in
    omega (arith, s.requires, c.room_in-room.ensures, room_most (length s.args.list.now))

pub slice_bounds-close_epoch-end-2 : goal.slice_bounds-close_epoch-end-2
slice_bounds-close_epoch-end-2 c =
    let s = c in
    sym (length-take-le _ _ (omega (arith, s.requires, c.room_in-room.ensures, room_most (length s.args.list.now))))

pub slice_bounds-put_numbers-end : goal.slice_bounds-put_numbers-end
slice_bounds-put_numbers-end c =
    let k = c.close_epoch-closed in
    let a = c.args in
    let q = c.room_in-room in
    (written_fits a.memory.now k.new.memory a.lots a.lot a.account a.list.now a.numbers.now k.new.list q.result (Ok c.in-Ok.count) c.requires (omega (arith, q.ensures)) k.auto.list c.in-Ok.ensures _).0

pub slice_bounds-put_numbers-end-in-Ok : goal.slice_bounds-put_numbers-end-in-Ok
slice_bounds-put_numbers-end-in-Ok c =
    let k = c.close_epoch-closed in
    let a = c.args in
    let q = c.room_in-room in
    let f = written_fits a.memory.now k.new.memory a.lots a.lot a.account a.list.now a.numbers.now k.new.list q.result (Ok c.in-Ok.count) c.requires (omega (arith, q.ensures)) k.auto.list c.in-Ok.ensures _ in
    sym (length-take-le _ _ f.0)

pub put_numbers-requires : goal.put_numbers-requires
put_numbers-requires c =
    let k = c.close_epoch-closed in
    let a = c.args in
    let q = c.room_in-room in
    let f = written_fits a.memory.now k.new.memory a.lots a.lot a.account a.list.now a.numbers.now k.new.list q.result (Ok c.in-Ok.count) c.requires (omega (arith, q.ensures)) k.auto.list c.in-Ok.ensures _ in
    rw (length-take-le _ _ f.0) f.1

pub returns-in-Ok : goal.returns-in-Ok
returns-in-Ok c =
    let k = c.close_epoch-closed in
    let a = c.args in
    let q = c.room_in-room in
    list_closed a.memory.now k.new.memory a.lots a.lot a.account a.list.now a.numbers.now k.new.list q.result (Ok c.in-Ok.count) c.requires (omega (arith, q.ensures)) k.auto.list c.in-Ok.ensures _ (λ i. search rules) c.put_numbers.ensures

pub returns-in_default : goal.returns-in_default
returns-in_default c =
    let k = c.close_epoch-closed in
    let a = c.args in
    let q = c.room_in-room in
    list_closed a.memory.now k.new.memory a.lots a.lot a.account a.list.now a.numbers.now k.new.list q.result k.result c.requires (omega (arith, q.ensures)) k.auto.list k.ensures [] {e = 0} (λ i. search rules)
    (rw (none_written k.result c.in_default.not-Ok) (none_yet bytes32 a.list.now))
