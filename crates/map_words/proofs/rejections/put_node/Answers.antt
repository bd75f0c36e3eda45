use borrow.Author.Rules.{rules}
use native.Mathlib.Omega.{arith}
use Prim.Native.Nat.{◌<◌, ◌^◌}
use Rattle.map_words.proofs.PartLaws.{then}
use Rattle.spec_words.proofs.Decimal.{decimal_64}
use Rattle.map_words.proofs.rejections.put_node.Goals as goal

pub put_number-rest-requires : goal.put_number-rest-requires
put_number-rest-requires c =
    let h : c.args.node.0 < 2 ^ 64 = search rules in omega (arith, decimal_64 c.args.node.0 h, c.put_words-number.ensures.place, c.put_words-number.auto.out, c.requires)

pub put_words-requires : goal.put_words-requires
put_words-requires c =
    let h : c.args.node.0 < 2 ^ 64 = search rules in omega (arith, decimal_64 c.args.node.0 h, c.put_words-number.ensures.place, c.put_words-number.auto.out, c.put_number-rest.ensures.place, c.put_number-rest.auto.out, c.requires)

pub returns : goal.returns
returns c = then c.put_words-number.ensures (then c.put_number-rest.ensures c.put_words.ensures)
