use borrow.Author.Rules.{rules}
use native.Mathlib.Omega.{arith}
use mathlib.Core.Path.{◌≡◌}
use Prim.Native.Nat.{◌<◌, ◌^◌}
use lib.ListN.{length}
use Rattle.spec_words.specs.Words.{words}
use Rattle.map_words.proofs.PartLaws.{then, key-most}
use Rattle.map_words.proofs.rejections.put_no_shard.Goals as goal

pub put_key-requires : goal.put_key-requires
put_key-requires c =
    let k = c.args.key in let h : length k.collection.bytes ≡ 32 = search rules in let g : k.shard < 2 ^ 32 = search rules in omega (arith, key-most k h g, c.put_words-at.ensures.place, c.put_words-at.auto.out, c.requires)

pub returns : goal.returns
unfolding words
returns c = then c.put_words-at.ensures c.put_key.ensures
