use native.Mathlib.Omega.{arith}
use Prim.Native.Nat.{◌+◌}
use Rattle.image_parts.proofs.Images.{stored-word}
use Rattle.image_header_begin.proofs.RowLaws.{opened}
use Rattle.image_header_begin.proofs.rows.open_row.Goals as goal

pub put8-requires : goal.put8-requires
put8-requires c = let r = c.requires.0 in omega arith

pub overflow_mul-row : goal.overflow_mul-row
overflow_mul-row c = let f = c.requires.2 in let g = c.requires.1 in omega arith

pub overflow_add-row : goal.overflow_add-row
overflow_add-row c = let f = c.requires.2 in let g = c.requires.1 in omega arith

pub overflow_add-row-2 : goal.overflow_add-row-2
overflow_add-row-2 c = let f = c.requires.2 in let g = c.requires.1 in omega arith

pub overflow_sub-count : goal.overflow_sub-count
overflow_sub-count c = let g = c.requires.1 in omega arith

pub overflow_mul-count : goal.overflow_mul-count
overflow_mul-count c = let f = c.requires.2 in let g = c.requires.1 in omega arith

pub move_up-requires : goal.move_up-requires
move_up-requires c =
    let r = c.requires.0 in let g = c.requires.1 in let f = c.requires.2 in let l = c.put8.auto.out in (omega arith, omega arith)

pub returns : goal.returns
returns c =
    opened c.args.out.now _ _ c.args.at c.args.count c.requires.0 c.requires.1 c.requires.2 (stored-word 8 (c.args.count + 1) c.put8.ensures) c.move_up.ensures
