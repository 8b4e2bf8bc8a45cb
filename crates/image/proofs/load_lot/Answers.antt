-- `load_lot` leaves a lot that holds the account that the data show. Assumes nothing.
use native.Mathlib.Omega.{arith}
use Rattle.image.proofs.Loaded.{can_load, data_loaded}
use Rattle.image.proofs.load_lot.Goals as goal

pub overflow_sub-start : goal.overflow_sub-start
overflow_sub-start c =
    let a = c in
    (can_load a.args.«data».now (λ i. omega (arith, c.type_inv.«data» i)) a.args.t a.requires.1).0

pub load_image-requires : goal.load_image-requires
load_image-requires c =
    let a = c in
    (a.requires.0, (can_load a.args.«data».now (λ i. omega (arith, c.type_inv.«data» i)) a.args.t a.requires.1).1)

pub returns : goal.returns
returns c =
    let a = c in
    data_loaded a.args.«data».now (λ i. omega (arith, c.type_inv.«data» i)) a.args.t a.requires.1 a.args.lot.now _ c.load_image.ensures
