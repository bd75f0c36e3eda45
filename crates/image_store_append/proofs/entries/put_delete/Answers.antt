use Rattle.image_store_append.proofs.EntryLaws.{delete_put}
use Rattle.image_store_append.proofs.entries.put_delete.Goals as goal

pub shape_of-out : goal.shape_of-out
shape_of-out c = c.put_numbers.auto.out

pub returns : goal.returns
returns c = let a = c.args in delete_put a.out.now _ a.base a.i a.epoch a.id c.put_numbers.ensures
