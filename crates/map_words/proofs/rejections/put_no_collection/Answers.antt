use borrow.Author.Rules.{rules}
use native.Mathlib.Omega.{arith}
use mathlib.Core.Path.{◌≡◌}
use lib.ListN.{length}
use Rattle.spec_words.specs.Words.{words}
use Rattle.map_words.proofs.PartLaws.{then, name-most}
use Rattle.map_words.proofs.rejections.put_no_collection.Goals as goal

pub put_name-requires : goal.put_name-requires
put_name-requires c =
    let n = c.args.name in let h : length n.bytes ≡ 32 = search rules in omega (arith, name-most n h, c.put_words-at.ensures.place, c.put_words-at.auto.out, c.requires)

pub returns : goal.returns
unfolding words
returns c = then c.put_words-at.ensures c.put_name.ensures
