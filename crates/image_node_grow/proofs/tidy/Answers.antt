use native.Mathlib.Omega.{arith}
use mathlib.Core.Path.{sym}
use Rattle.image_header_check.proofs.Rows.{counted}
use Rattle.image_node_grow.proofs.GrowLaws.{tidied}
use Rattle.image_node_grow.proofs.tidy.Goals as goal

pub overflow_mul-row : goal.overflow_mul-row
overflow_mul-row c = let p = c.requires.0.1 in let q = c.requires.1 in omega arith

pub overflow_add-row : goal.overflow_add-row
overflow_add-row c = let p = c.requires.0.1 in let q = c.requires.1 in omega arith

pub get8-count-requires : goal.get8-count-requires
get8-count-requires c = let p = c.requires.0.0 in omega arith

pub overflow_add-row-2 : goal.overflow_add-row-2
overflow_add-row-2 c = let p = c.requires.0.1 in let q = c.requires.1 in omega arith

pub get8-last-requires : goal.get8-last-requires
get8-last-requires c = let o = c.requires.0.0 in let p = c.requires.0.1 in let q = c.requires.1 in omega arith

pub overflow_add-row-3 : goal.overflow_add-row-3
overflow_add-row-3 c = let p = c.requires.0.1 in let q = c.requires.1 in omega arith

pub get8-stored-requires : goal.get8-stored-requires
get8-stored-requires c = let o = c.requires.0.0 in let p = c.requires.0.1 in let q = c.requires.1 in omega arith

pub put_counts-requires : goal.put_counts-requires
put_counts-requires c =
    let e = c.get8-count.ensures in let k = counted c.args.header.now in let p = c.requires.0.1 in let q = c.requires.1 in ((c.requires.0.0, omega arith, sym e), omega arith)

pub shape_of-header : goal.shape_of-header
shape_of-header c = c.put_counts.auto.out

pub returns : goal.returns
returns c =
    tidied c.args.header.now c.args.at c.requires.0 c.requires.1 c.get8-last.result c.get8-stored.result c.get8-last.ensures c.get8-stored.ensures _ c.put_counts.ensures
