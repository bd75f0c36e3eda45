use native.Mathlib.Omega.{arith}
use mathlib.Core.Path.{◌∙◌}
use Prim.Native.Nat.{◌+◌}
use Rattle.image_store_append.specs.Put.{delete_at}
use Rattle.image_store_append.proofs.EntryLaws.{delete_fits, stored-few, keys_rise_on, grown, as_delete}
use Rattle.image_store_append.proofs.entries.append_delete.Goals as goal

pub put_delete-requires : goal.put_delete-requires
put_delete-requires c = (c.requires.0, c.requires.1)

pub drop_row-requires : goal.drop_row-requires
drop_row-requires c =
    let a = c.args in let p = c.requires.0 in let q = c.requires.1 in let l = c.put_delete.auto.out in let f = stored-few a.out.now a.base a.count a.stored c.requires.2 in let b = c.ranges in
    (omega arith, omega arith, keys_rise_on a.out.now a.base a.count a.stored c.requires.2 (delete_at a.epoch a.count a.id) (delete_fits a.epoch a.count a.id (omega arith) c.requires.0 (omega arith)) c.requires.0 _ c.put_delete.ensures)

pub shape_of-out : goal.shape_of-out
shape_of-out c = c.drop_row.auto.out ∙ c.put_delete.auto.out

pub returns : goal.returns
returns c =
    let a = c.args in let b = c.ranges in grown a.out.now a.base a.count a.stored c.requires.2 (delete_at a.epoch a.count a.id) (delete_fits a.epoch a.count a.id (omega arith) c.requires.0 (omega arith)) c.requires.0 _ _ _ c.put_delete.ensures (as_delete _ _ a.base a.stored a.id (a.count + 1) _ c.drop_row.ensures)
