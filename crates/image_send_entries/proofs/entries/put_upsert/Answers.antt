use borrow.Author.Rules.{rules}
use native.Mathlib.Omega.{arith}
use mathlib.Core.Path.{◌∙◌}
use Rattle.image_send_entries.proofs.Store.{part_long, upsert_copied}
use Rattle.image_send_entries.proofs.entries.put_upsert.Goals as goal

pub put_byte-requires : goal.put_byte-requires
put_byte-requires c = let p = c.requires.0 in omega arith

pub put8-requires : goal.put8-requires
put8-requires c = let p = c.requires.0 in let l = c.put_byte.auto.out in omega arith

pub overflow_cast-n : goal.overflow_cast-n
overflow_cast-n c = let p = c.requires.1 in omega arith

pub put_byte-requires-2 : goal.put_byte-requires-2
put_byte-requires-2 c = let p = c.requires.0 in let l = c.put_byte.auto.out in let m = c.put8.auto.out in omega arith

pub overflow_mul-n : goal.overflow_mul-n
overflow_mul-n c = let p = c.requires.1 in omega arith

pub overflow_add-from : goal.overflow_add-from
overflow_add-from c = let p = c.requires.2 in let f = c.ranges in let g = c.well_formed in search rules

pub slice_bounds-put_bytes-end : goal.slice_bounds-put_bytes-end
slice_bounds-put_bytes-end c = let p = c.requires.2 in omega arith

pub put_bytes-requires : goal.put_bytes-requires
put_bytes-requires c =
    let p = c.requires.0 in let l = c.put_byte.auto.out in let m = c.put8.auto.out in let k = c.put_byte-2.auto.out in let w = part_long c.args.s.now c.args.from c.args.n c.requires.2 in omega arith

pub shape_of-out : goal.shape_of-out
shape_of-out c = c.put_bytes.auto.out ∙ c.put_byte-2.auto.out ∙ c.put8.auto.out ∙ c.put_byte.auto.out

pub returns : goal.returns
returns c =
    let a = c.args in c.put_bytes.ensures ∙ (rw (c.put_byte-2.ensures, c.put8.ensures, c.put_byte.ensures) (upsert_copied a.s.now a.from a.n c.requires.2 c.requires.1 c.requires.3 a.out.now a.at a.id))
