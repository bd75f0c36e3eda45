use borrow.Author.Rules.{rules}
use native.Mathlib.Omega.{arith}
use mathlib.Core.Path.{◌≡◌}
use lib.ListN.{length}
use Rattle.spec_words.specs.Words.{words}
use Rattle.map_words.proofs.PartLaws.{then, name-most}
use Rattle.map_words.proofs.rejections.put_exists.Goals as goal

pub put_name-rest-requires : goal.put_name-rest-requires
put_name-rest-requires c =
    let n = c.args.name in let h : length n.bytes ≡ 32 = search rules in omega (arith, name-most n h, c.put_words-at.ensures.place, c.put_words-at.auto.out, c.requires)

pub put_words-requires : goal.put_words-requires
put_words-requires c =
    let n = c.args.name in let h : length n.bytes ≡ 32 = search rules in omega (arith, name-most n h, c.put_words-at.ensures.place, c.put_words-at.auto.out, c.put_name-rest.ensures.place, c.put_name-rest.auto.out, c.requires)

pub returns : goal.returns
unfolding words
returns c = then c.put_words-at.ensures (then c.put_name-rest.ensures c.put_words.ensures)
