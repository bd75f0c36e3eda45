use borrow.Author.Rules.{rules}
use native.Mathlib.Omega.{arith}
use mathlib.Core.Path.{sym}
use Rattle.image_header_check.proofs.Rows.{counted}
use Rattle.image_node_grow.proofs.GrowLaws.{row-slot, row_last, well_here, grows}
use Rattle.image_node_grow.proofs.grow.Goals as goal

pub overflow_mul-row : goal.overflow_mul-row
overflow_mul-row c = let c₀ = c.requires.0.1 in let u = c.requires.1 in search rules

pub overflow_add-row : goal.overflow_add-row
overflow_add-row c = let c₀ = c.requires.0.1 in let u = c.requires.1 in search rules

pub get8-count-requires : goal.get8-count-requires
get8-count-requires c = let l = c.requires.0.0 in omega arith

pub overflow_add-row-2 : goal.overflow_add-row-2
overflow_add-row-2 c = let c₀ = c.requires.0.1 in let u = c.requires.1 in search rules

pub get8-slot-requires : goal.get8-slot-requires
get8-slot-requires c = let l = c.requires.0.0 in let c₀ = c.requires.0.1 in let u = c.requires.1 in omega arith

pub overflow_add-row-3 : goal.overflow_add-row-3
overflow_add-row-3 c = let c₀ = c.requires.0.1 in let u = c.requires.1 in search rules

pub get8-last-requires : goal.get8-last-requires
get8-last-requires c = let l = c.requires.0.0 in let c₀ = c.requires.0.1 in let u = c.requires.1 in omega arith

pub overflow_add-row-4 : goal.overflow_add-row-4
overflow_add-row-4 c = let c₀ = c.requires.0.1 in let u = c.requires.1 in search rules

pub get8-stored-requires : goal.get8-stored-requires
get8-stored-requires c = let l = c.requires.0.0 in let c₀ = c.requires.0.1 in let u = c.requires.1 in omega arith

pub overflow_add-row-5 : goal.overflow_add-row-5
overflow_add-row-5 c = let c₀ = c.requires.0.1 in let u = c.requires.1 in search rules

pub get8-epoch-requires : goal.get8-epoch-requires
get8-epoch-requires c = let l = c.requires.0.0 in let c₀ = c.requires.0.1 in let u = c.requires.1 in omega arith

pub overflow_mul-slot : goal.overflow_mul-slot
overflow_mul-slot c =
    let h = c.args.header.now in let e = row-slot h c.args.at c.requires.0 c.requires.1 in let r = c.get8-slot.ensures in let b = c.requires.2 in search rules

pub append_op-rows-requires : goal.append_op-rows-requires
append_op-rows-requires c =
    let a = c.args in let h = a.header.now in let e = row-slot h a.at c.requires.0 c.requires.1 in let l = row_last h a.at c.requires.0 c.requires.1 in let r = c.get8-slot.ensures in let q = c.get8-last.ensures in let free = c.requires.3 in let room = c.requires.4 in
    (omega arith, omega arith, well_here h a.at c.requires.0 c.requires.1 c.get8-slot.result c.get8-last.result c.get8-stored.result c.get8-epoch.result c.get8-slot.ensures c.get8-last.ensures c.get8-stored.ensures c.get8-epoch.ensures a.stores.now c.requires.5, c.requires.6, c.requires.7)

pub overflow_add-last : goal.overflow_add-last
overflow_add-last c =
    let a = c.args in let h = a.header.now in let l = row_last h a.at c.requires.0 c.requires.1 in let q = c.get8-last.ensures in let free = c.requires.3 in search rules

pub put_counts-requires : goal.put_counts-requires
put_counts-requires c =
    let a = c.args in let h = a.header.now in let k = counted h in let e = c.get8-count.ensures in let few = c.requires.0.1 in let u = c.requires.1 in ((c.requires.0.0, omega arith, sym e), omega arith)

pub returns : goal.returns
returns c =
    let a = c.args in let h = a.header.now in
    grows h a.at c.requires.0 c.requires.1 c.get8-slot.result c.get8-last.result c.get8-stored.result c.get8-epoch.result c.get8-slot.ensures c.get8-last.ensures c.get8-stored.ensures c.get8-epoch.ensures _ a.stores.now _ a.message.now a.op c.append_op-rows.result c.append_op-rows.ensures c.put_counts.ensures
