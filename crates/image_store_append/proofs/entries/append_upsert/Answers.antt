use native.Mathlib.Omega.{arith}
use mathlib.Core.Path.{◌∙◌}
use Prim.Native.Nat.{◌+◌}
use Rattle.spec.specs.Node.Wire.{floats_of}
use Rattle.image_store.specs.Image.{words}
use Rattle.image_store_append.specs.Put.{upsert_at}
use Rattle.image_store_append.proofs.EntryLaws.{upsert_fits, stored-few, keys_rise_on, grown, as_upsert}
use Rattle.image_store_append.proofs.entries.append_upsert.Goals as goal

pub put_upsert-requires : goal.put_upsert-requires
put_upsert-requires c = (c.requires.0, c.requires.1, c.requires.3, c.requires.4, c.requires.5)

pub put_row-requires : goal.put_row-requires
put_row-requires c =
    let a = c.args in let p = c.requires.0 in let q = c.requires.1 in let l = c.put_upsert.auto.out in let f = stored-few a.out.now a.base a.count a.stored c.requires.2 in let b = c.ranges in
    (omega arith, omega arith, keys_rise_on a.out.now a.base a.count a.stored c.requires.2 (upsert_at a.epoch a.count a.id (words 4 a.n a.s.now a.from)) (upsert_fits a.epoch a.count a.id (words 4 a.n a.s.now a.from) (omega arith) c.requires.0 (omega arith) c.requires.5) c.requires.0 _ c.put_upsert.ensures)

pub shape_of-out : goal.shape_of-out
shape_of-out c = c.put_row.auto.out ∙ c.put_upsert.auto.out

pub returns : goal.returns
returns c =
    let a = c.args in let b = c.ranges in grown a.out.now a.base a.count a.stored c.requires.2 (upsert_at a.epoch a.count a.id (words 4 a.n a.s.now a.from)) (upsert_fits a.epoch a.count a.id (words 4 a.n a.s.now a.from) (omega arith) c.requires.0 (omega arith) c.requires.5) c.requires.0 _ _ _ c.put_upsert.ensures (as_upsert _ _ a.base a.stored a.id (a.count + 1) _ (floats_of (words 4 a.n a.s.now a.from)) c.put_row.ensures)
