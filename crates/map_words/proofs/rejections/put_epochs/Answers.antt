use borrow.Author.Rules.{rules}
use native.Mathlib.Omega.{arith}
use mathlib.Core.Path.{ap}
use mathlib.Core.List.{List, ◌++◌, append_assoc}
use Prim.Native.Nat.{ℕ, ◌<◌, ◌^◌}
use Rattle.map_tables.specs.Names.{view_key}
use Rattle.spec_words.specs.Decimal.{decimal}
use Rattle.spec_words.specs.Texts.{says_shard, says_epoch, says_not}
use Rattle.spec_words.specs.Words.{key_words, words}
use Rattle.spec_words.proofs.Decimal.{decimal_64}
use Rattle.map_words.proofs.PartLaws.{then, puts_as}
use Rattle.map_words.proofs.rejections.put_epochs.Goals as goal

pub put_words-number-requires : goal.put_words-number-requires
put_words-number-requires c = omega (arith, c.put_own_epoch-rest.ensures.1, c.put_own_epoch-rest.auto.out, c.requires)

pub put_number-requires : goal.put_number-requires
put_number-requires c =
    let b : c.args.given.0 < 2 ^ 64 = search rules in omega (arith, decimal_64 c.args.given.0 b, c.put_own_epoch-rest.ensures.1, c.put_own_epoch-rest.auto.out, c.put_words-number.ensures.place, c.put_words-number.auto.out, c.requires)

pub returns : goal.returns
unfolding words
returns c =
    puts_as (ap (λ (l : List ℕ). says_shard ++ l) (append_assoc (key_words (view_key c.args.key)) (says_epoch ++ decimal c.args.own.0) (says_not ++ decimal c.args.given.0))) (then c.put_own_epoch-rest.ensures.0 (then c.put_words-number.ensures c.put_number.ensures))
