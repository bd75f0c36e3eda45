use native.Mathlib.Omega.{arith}
use mathlib.Core.Path.{sym}
use Rattle.log_domain.specs.Parts.{entries_in}
use Rattle.image_header_check.proofs.Rows.{counted}
use Rattle.calls_copy.proofs.BatchLaws.{slot_here, well-read, holds_read, grows_all}
use Rattle.calls_copy.proofs.batch.grow_all.Goals as goal

pub overflow_mul-row : goal.overflow_mul-row
overflow_mul-row c = let p = c.requires.0.1 in let q = c.requires.1 in omega arith

pub overflow_add-row : goal.overflow_add-row
overflow_add-row c = let p = c.requires.0.1 in let q = c.requires.1 in omega arith

pub get8-count-requires : goal.get8-count-requires
get8-count-requires c = let p = c.requires.0.0 in omega arith

pub overflow_add-row-2 : goal.overflow_add-row-2
overflow_add-row-2 c = let p = c.requires.0.1 in let q = c.requires.1 in omega arith

pub get8-slot-requires : goal.get8-slot-requires
get8-slot-requires c = let o = c.requires.0.0 in let p = c.requires.0.1 in let q = c.requires.1 in omega arith

pub overflow_add-row-3 : goal.overflow_add-row-3
overflow_add-row-3 c = let p = c.requires.0.1 in let q = c.requires.1 in omega arith

pub get8-last-requires : goal.get8-last-requires
get8-last-requires c = let o = c.requires.0.0 in let p = c.requires.0.1 in let q = c.requires.1 in omega arith

pub overflow_add-row-4 : goal.overflow_add-row-4
overflow_add-row-4 c = let p = c.requires.0.1 in let q = c.requires.1 in omega arith

pub get8-stored-requires : goal.get8-stored-requires
get8-stored-requires c = let o = c.requires.0.0 in let p = c.requires.0.1 in let q = c.requires.1 in omega arith

pub store_batch-t-requires : goal.store_batch-t-requires
store_batch-t-requires c =
    let a = c.args in let e = slot_here a.header.now a.at c.requires.0 c.requires.1 c.get8-slot.result c.get8-last.result c.get8-stored.result c.get8-slot.ensures c.get8-last.ensures c.get8-stored.ensures in let b = c.requires.2 in (
      omega arith,
      c.requires.3,
      well-read a.header.now a.at c.requires.0 c.requires.1 c.get8-slot.result c.get8-last.result c.get8-stored.result c.get8-slot.ensures c.get8-last.ensures c.get8-stored.ensures a.stores.now c.requires.4,
      c.requires.5,
      c.requires.6,
      holds_read a.header.now a.at c.requires.0 c.requires.1 c.get8-slot.result c.get8-last.result c.get8-stored.result c.get8-slot.ensures c.get8-last.ensures c.get8-stored.ensures (entries_in a.message.now a.p) c.requires.7,
    )

pub put_counts-requires : goal.put_counts-requires
put_counts-requires c =
    let a = c.args in let e = c.get8-count.ensures in let k = counted a.header.now in let p = c.requires.0.1 in let q = c.requires.1 in ((c.requires.0.0, omega arith, sym e), omega arith)

pub returns : goal.returns
returns c =
    let a = c.args in grows_all a.header.now a.at c.requires.0 c.requires.1 c.get8-slot.result c.get8-last.result c.get8-stored.result c.get8-slot.ensures c.get8-last.ensures c.get8-stored.ensures _ a.stores.now _ _ c.store_batch-t.result c.store_batch-t.ensures c.put_counts.ensures
