use borrow.Author.Rules.{rules}
use native.Mathlib.Omega.{arith}
use mathlib.Core.List.{◌++◌, append_assoc}
use Prim.Native.Nat.{◌<◌, ◌^◌}
use lib.ListN.{length-append}
use Rattle.map_words.proofs.PartLaws.{then, puts_as}
use Rattle.spec_words.specs.Decimal.{decimal}
use Rattle.spec_words.specs.Texts.{says_node}
use Rattle.spec_words.proofs.Decimal.{decimal_64}
use Rattle.map_words.proofs.rejections.put_node_at.Goals as goal

pub put_number-requires : goal.put_number-requires
put_number-requires c =
    let h : c.args.node.0 < 2 ^ 64 = search rules in
    let g : c.args.incarnation < 2 ^ 64 = search rules in
    omega (arith, decimal_64 c.args.node.0 h, decimal_64 c.args.incarnation g, c.put_node-number.ensures.place, c.put_node-number.auto.out, length-append (decimal c.args.node.0) c.args.tail.now, c.requires)

pub returns : goal.returns
returns c =
    puts_as (append_assoc (says_node ++ decimal c.args.node.0) c.args.tail.now (decimal c.args.incarnation)) (then c.put_node-number.ensures c.put_number.ensures)
