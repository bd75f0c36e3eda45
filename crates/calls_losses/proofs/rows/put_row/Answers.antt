use borrow.Author.Rules.{rules}
use native.Mathlib.Omega.{arith}
use mathlib.Core.Path.{sym}
use Rattle.image_parts.proofs.Images.{stored-then, stored-word}
use Rattle.calls_losses.proofs.RowLaws.{short_row, long_row}
use Rattle.calls_losses.proofs.rows.put_row.Goals as goal

pub returns-in_default : goal.returns-in_default
returns-in_default c =
    short_row c.args.node.0 c.args.a c.args.out.now _ c.args.at c.answer_code.result c.answer_code.ensures (search rules) (stored-then (stored-word 8 c.args.node.0 c.put8.ensures) (stored-word 8 c.answer_code.result c.put8-2.ensures))

pub returns-in_default-2 : goal.returns-in_default-2
returns-in_default-2 c =
    short_row c.args.node.0 c.args.a c.args.out.now _ c.args.at c.answer_code.result c.answer_code.ensures (search rules) (stored-then (stored-word 8 c.args.node.0 c.put8.ensures) (stored-word 8 c.answer_code.result c.put8-2.ensures))

pub put_lists-requires : goal.put_lists-requires
put_lists-requires c =
    omega (arith, c.requires, c.lists_size-size.ensures.0, c.lists_size-size.ensures.1, c.put8.auto.out, c.put8-2.auto.out)

pub returns : goal.returns
returns c =
    long_row c.args.node.0 c.args.a c.args.out.now _ c.args.at c.answer_code.result c.answer_code.ensures c.in-Ok-Some.placement c.lists_size-size.result (search rules) c.lists_size-size.ensures.1 (stored-then (stored-then (stored-word 8 c.args.node.0 c.put8.ensures) (stored-word 8 c.answer_code.result c.put8-2.ensures)) (record { image = c.put_lists.ensures; long = sym c.lists_size-size.ensures.0 }))
