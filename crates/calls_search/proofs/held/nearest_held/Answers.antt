use native.Mathlib.Omega.{arith}
use mathlib.Core.Path.{◌∙◌, ap}
use Rattle.log_search.proofs.Searching.{vector_bounded}
use Rattle.log_search.proofs.Answered.{least_both}
use Rattle.calls_search.proofs.HeldLaws.{row-few, store-there, store-well, nearest_held}
use Rattle.calls_search.proofs.held.nearest_held.Goals as goal

pub overflow_mul-row : goal.overflow_mul-row
overflow_mul-row c =
    let w = row-few c.args.header.now c.args.stores.now _ c.args.at c.requires.0 in let z = c.requires.0.counts.0 in omega arith

pub overflow_add-row : goal.overflow_add-row
overflow_add-row c =
    let w = row-few c.args.header.now c.args.stores.now _ c.args.at c.requires.0 in let z = c.requires.0.counts.0 in omega arith

pub overflow_add-row-2 : goal.overflow_add-row-2
overflow_add-row-2 c =
    let w = row-few c.args.header.now c.args.stores.now _ c.args.at c.requires.0 in let z = c.requires.0.counts.0 in omega arith

pub get8-slot-requires : goal.get8-slot-requires
get8-slot-requires c =
    let w = row-few c.args.header.now c.args.stores.now _ c.args.at c.requires.0 in let z = c.requires.0.counts.0 in omega arith

pub overflow_add-row-3 : goal.overflow_add-row-3
overflow_add-row-3 c =
    let w = row-few c.args.header.now c.args.stores.now _ c.args.at c.requires.0 in let z = c.requires.0.counts.0 in omega arith

pub get8-last-requires : goal.get8-last-requires
get8-last-requires c =
    let w = row-few c.args.header.now c.args.stores.now _ c.args.at c.requires.0 in let z = c.requires.0.counts.0 in omega arith

pub overflow_add-row-4 : goal.overflow_add-row-4
overflow_add-row-4 c =
    let w = row-few c.args.header.now c.args.stores.now _ c.args.at c.requires.0 in let z = c.requires.0.counts.0 in omega arith

pub get8-stored-requires : goal.get8-stored-requires
get8-stored-requires c =
    let w = row-few c.args.header.now c.args.stores.now _ c.args.at c.requires.0 in let z = c.requires.0.counts.0 in omega arith

pub overflow_add-row-5 : goal.overflow_add-row-5
overflow_add-row-5 c =
    let w = row-few c.args.header.now c.args.stores.now _ c.args.at c.requires.0 in let z = c.requires.0.counts.0 in omega arith

pub get4-requires : goal.get4-requires
get4-requires c =
    let w = row-few c.args.header.now c.args.stores.now _ c.args.at c.requires.0 in let z = c.requires.0.counts.0 in omega arith

pub overflow_mul-slot : goal.overflow_mul-slot
overflow_mul-slot c =
    let a = c.args in let w = store-there a.header.now a.stores.now _ a.at c.requires.0 _ _ _ c.get8-slot.ensures c.get8-last.ensures c.get8-stored.ensures in omega arith

pub nearest-requires : goal.nearest-requires
nearest-requires c =
    let a = c.args in (store-there a.header.now a.stores.now _ a.at c.requires.0 _ _ _ c.get8-slot.ensures c.get8-last.ensures c.get8-stored.ensures, store-well a.header.now a.stores.now _ a.at c.requires.0 _ _ _ c.get8-slot.ensures c.get8-last.ensures c.get8-stored.ensures, vector_bounded _ c.requires.1, (least_both _ _ _ c.least-most.ensures).1)

pub returns : goal.returns
returns c =
    let a = c.args in nearest_held a.header.now a.stores.now _ a.at c.requires.0 _ _ _ c.get8-slot.ensures c.get8-last.ensures c.get8-stored.ensures _ (c.metric_of-metric.ensures ∙ ap Rattle.spec.specs.Layout.Parts.metric_of c.get4.ensures) a.query.now a.k _ c.least-most.ensures _ c.nearest.ensures
