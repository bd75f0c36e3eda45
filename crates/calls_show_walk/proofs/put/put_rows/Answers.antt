use borrow.Author.Rules.{rules}
use native.Mathlib.Omega.{arith}
use mathlib.Core.Path.{refl, sym}
use Prim.Native.Nat.{◌*◌}
use Rattle.image_parts.proofs.Images.{stored-word}
use lib.Seq.{length-take-le}
use Rattle.calls_show_walk.proofs.PutLaws.{counts-c, open_c, header-takes}
use Rattle.calls_show_walk.proofs.put.put_rows.Goals as goal

pub put8-requires : goal.put8-requires
put8-requires c = let f = c.requires.0 in omega arith

pub put8-requires-2 : goal.put8-requires-2
put8-requires-2 c = let f = c.requires.0 in let l = c.put8.auto.out in omega arith

pub overflow_mul-end : goal.overflow_mul-end
overflow_mul-end c = let f = c.requires.1 in omega arith

pub slice_bounds-put_bytes-end : goal.slice_bounds-put_bytes-end
slice_bounds-put_bytes-end c = let f = c.requires.2 in sym (length-take-le _ _ (omega arith))

pub put_bytes-requires : goal.put_bytes-requires
put_bytes-requires c =
    let f = c.requires.0 in let l = c.put8.auto.out in let l2 = c.put8-2.auto.out in let few = c.requires.1 in let z = length-take-le (1280 * c.args.count) c.args.rows.now c.requires.2 in omega arith

pub give_slots-requires : goal.give_slots-requires
give_slots-requires c =
    let a = c.args in (
      counts-c a.header.now _ _ _ a.rows.now a.count a.version _ c.requires.0 c.requires.1 c.requires.2 (search rules) refl (stored-word 8 _ c.put8.ensures) (stored-word 8 _ c.put8-2.ensures) c.put_bytes.ensures,
      open_c a.header.now _ _ _ a.rows.now a.count a.version _ c.requires.0 c.requires.1 c.requires.2 (search rules) refl (stored-word 8 _ c.put8.ensures) (stored-word 8 _ c.put8-2.ensures) c.put_bytes.ensures c.requires.3,
    )

pub put_back-requires : goal.put_back-requires
put_back-requires c = c.give_slots.ensures.counts

pub returns : goal.returns
returns c =
    let a = c.args in header-takes a.header.now _ _ _ a.rows.now a.count a.version _ c.requires.0 c.requires.1 c.requires.2 (search rules) refl (stored-word 8 _ c.put8.ensures) (stored-word 8 _ c.put8-2.ensures) c.put_bytes.ensures _ _ c.give_slots.ensures (λ k. omega (arith, c.slice_known-5-1.given k)) c.put_back.ensures
