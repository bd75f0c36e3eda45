use native.Mathlib.Omega.{arith}
use Rattle.spec_words.specs.Words.{key_words}
use Rattle.map_tables.specs.Names.{view_key}
use Rattle.map_words.proofs.PartLaws.{then, length-key}
use Rattle.map_words.proofs.parts.put_key.Goals as goal

pub put_name-slash-requires : goal.put_name-slash-requires
put_name-slash-requires c = omega (arith, length-key (view_key c.args.key), c.requires)

pub put_words-number-requires : goal.put_words-number-requires
put_words-number-requires c =
    omega (arith, length-key (view_key c.args.key), c.requires, c.put_name-slash.ensures.place, c.put_name-slash.auto.out)

pub put_number-requires : goal.put_number-requires
put_number-requires c =
    omega (arith, length-key (view_key c.args.key), c.requires, c.put_name-slash.ensures.place, c.put_words-number.ensures.place, c.put_name-slash.auto.out, c.put_words-number.auto.out)

pub returns : goal.returns
unfolding key_words
returns c = then c.put_name-slash.ensures (then c.put_words-number.ensures c.put_number.ensures)
