use Rattle.image_store_append.proofs.OpLaws.{vector-there, ends_inside, vector-is, upsert_grown, delete_grown}
use Rattle.image_store_append.proofs.ops.append_op.Goals as goal

pub append_upsert-requires : goal.append_upsert-requires
append_upsert-requires c =
    let a = c.args in let m = a.s.now in
    (c.requires.0, c.requires.1, c.requires.2, (vector-there m a.op c.requires.3 c.requires.4 _ _ c.in-Upsert.is).1, ends_inside m a.op c.requires.3 c.requires.4 _ _ c.in-Upsert.is, vector-is m a.op c.requires.3 c.requires.4 _ _ c.in-Upsert.is)

pub append_delete-requires : goal.append_delete-requires
append_delete-requires c = (c.requires.0, c.requires.1, c.requires.2)

pub shape_of-out-in-Upsert : goal.shape_of-out-in-Upsert
shape_of-out-in-Upsert c = c.append_upsert.auto.out

pub returns-in-Upsert : goal.returns-in-Upsert
returns-in-Upsert c =
    let a = c.args in upsert_grown a.s.now a.op c.requires.3 c.requires.4 _ _ c.in-Upsert.is a.out.now _ a.base a.count a.epoch _ c.append_upsert.ensures

pub shape_of-out-in-Delete : goal.shape_of-out-in-Delete
shape_of-out-in-Delete c = c.append_delete.auto.out

pub returns-in-Delete : goal.returns-in-Delete
returns-in-Delete c =
    let a = c.args in delete_grown a.s.now a.op c.requires.3 c.requires.4 _ c.in-Delete.is a.out.now _ a.base a.count a.epoch _ c.append_delete.ensures
