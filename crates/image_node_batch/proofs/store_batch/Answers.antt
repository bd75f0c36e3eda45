use native.Mathlib.Omega.{arith}
use mathlib.Core.Path.{refl, ◌∙◌}
use Prim.Native.Nat.{ℕ, ◌+◌, ◌*◌}
use lib.ListN.{length-take, length-replicate}
use Rattle.image_node_batch.proofs.TableLaws.{copied, batch-stored, stored-few}
use Rattle.image_node_batch.proofs.store_batch.Goals as goal

pub overflow_mul-used : goal.overflow_mul-used
overflow_mul-used c = let m = stored-few _ _ _ _ _ _ _ c.append_all-t.ensures in omega arith

pub overflow_add-table-2 : goal.overflow_add-table-2
overflow_add-table-2 c = let m = stored-few _ _ _ _ _ _ _ c.append_all-t.ensures in let p = c.requires.0 in omega arith

pub slice_bounds-put_bytes-count-2 : goal.slice_bounds-put_bytes-count-2
slice_bounds-put_bytes-count-2 c = let m = stored-few _ _ _ _ _ _ _ c.append_all-t.ensures in omega arith

pub slice_bounds-put_bytes-start-2 : goal.slice_bounds-put_bytes-start-2
slice_bounds-put_bytes-start-2 c = let m = stored-few _ _ _ _ _ _ _ c.append_all-t.ensures in omega arith

pub put_bytes-requires-2 : goal.put_bytes-requires-2
put_bytes-requires-2 c =
    let m = stored-few _ _ _ _ _ _ _ c.append_all-t.ensures in let p = c.requires.0 in let q = c.requires.1 in let l = c.append_all-t.auto.out in simp length-take (omega arith)

pub overflow_add-also : goal.overflow_add-also
overflow_add-also c = let m = stored-few _ _ _ _ _ _ _ c.append_all-t.ensures in omega arith

pub overflow_add-table-3 : goal.overflow_add-table-3
overflow_add-table-3 c = let m = stored-few _ _ _ _ _ _ _ c.append_all-t.ensures in let p = c.requires.0 in omega arith

pub slice_bounds-put_bytes-count-3 : goal.slice_bounds-put_bytes-count-3
slice_bounds-put_bytes-count-3 c = let m = stored-few _ _ _ _ _ _ _ c.append_all-t.ensures in omega arith

pub slice_bounds-put_bytes-start-3 : goal.slice_bounds-put_bytes-start-3
slice_bounds-put_bytes-start-3 c = let m = stored-few _ _ _ _ _ _ _ c.append_all-t.ensures in omega arith

pub put_bytes-requires-3 : goal.put_bytes-requires-3
put_bytes-requires-3 c =
    let m = stored-few _ _ _ _ _ _ _ c.append_all-t.ensures in let p = c.requires.0 in let q = c.requires.1 in let l = c.append_all-t.auto.out in let k = c.put_bytes-2.auto.out in simp length-take (omega arith)

pub shape_of-out : goal.shape_of-out
shape_of-out c = c.put_bytes-3.auto.out ∙ c.put_bytes-2.auto.out ∙ c.append_all-t.auto.out

pub returns : goal.returns
returns c =
    let a = c.args in let p = c.requires.0 in let q = c.requires.1 in
    batch-stored a.out.now _ _ a.slot a.count a.stored _ c.append_all-t.result p q (λ i. omega (arith, c.slice_known-2-1.given i)) c.append_all-t.ensures _
    (c.put_bytes.ensures ∙ copied _ a.out.now (a.slot * 174080 + 157696) (a.slot * 174080 + 157696 + 16384) 16384 (length-replicate {A = ℕ} 16384 0) refl (omega arith))
    _ c.put_bytes-2.ensures c.put_bytes-3.ensures
