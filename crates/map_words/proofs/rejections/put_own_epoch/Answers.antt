use borrow.Author.Rules.{rules}
use native.Mathlib.Omega.{arith}
use mathlib.Core.Path.{◌≡◌}
use Prim.Native.Nat.{◌<◌, ◌^◌}
use lib.ListN.{length}
use Rattle.spec_words.proofs.Decimal.{decimal_64}
use Rattle.map_words.proofs.PartLaws.{then, key-most}
use Rattle.map_words.proofs.rejections.put_own_epoch.Goals as goal

pub put_key-behind-requires : goal.put_key-behind-requires
put_key-behind-requires c =
    let k = c.args.key in let h : length k.collection.bytes ≡ 32 = search rules in let g : k.shard < 2 ^ 32 = search rules in let a : c.args.own.0 < 2 ^ 64 = search rules in omega (arith, key-most k h g, decimal_64 c.args.own.0 a, c.requires, c.put_words-at.ensures.place, c.put_words-at.auto.out)

pub put_words-number-requires : goal.put_words-number-requires
put_words-number-requires c =
    let k = c.args.key in let h : length k.collection.bytes ≡ 32 = search rules in let g : k.shard < 2 ^ 32 = search rules in let a : c.args.own.0 < 2 ^ 64 = search rules in omega (arith, key-most k h g, decimal_64 c.args.own.0 a, c.requires, c.put_words-at.ensures.place, c.put_words-at.auto.out, c.put_key-behind.ensures.place, c.put_key-behind.auto.out)

pub put_number-requires : goal.put_number-requires
put_number-requires c =
    let k = c.args.key in let h : length k.collection.bytes ≡ 32 = search rules in let g : k.shard < 2 ^ 32 = search rules in let a : c.args.own.0 < 2 ^ 64 = search rules in omega (arith, key-most k h g, decimal_64 c.args.own.0 a, c.requires, c.put_words-at.ensures.place, c.put_words-at.auto.out, c.put_key-behind.ensures.place, c.put_key-behind.auto.out, c.put_words-number.ensures.place, c.put_words-number.auto.out)

pub returns : goal.returns
returns c =
    (then c.put_words-at.ensures (then c.put_key-behind.ensures (then c.put_words-number.ensures c.put_number.ensures)), let k = c.args.key in let h : length k.collection.bytes ≡ 32 = search rules in let g : k.shard < 2 ^ 32 = search rules in let a : c.args.own.0 < 2 ^ 64 = search rules in omega (arith, key-most k h g, decimal_64 c.args.own.0 a, c.requires, c.put_words-at.ensures.place, c.put_words-at.auto.out, c.put_key-behind.ensures.place, c.put_key-behind.auto.out, c.put_words-number.ensures.place, c.put_words-number.auto.out, c.put_number.ensures.place))
