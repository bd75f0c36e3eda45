use native.Mathlib.Omega.{arith}
use Rattle.image_store_append.proofs.RowLaws.{past_at, key-at}
use Rattle.image_store_append.proofs.rows.is_at.Goals as goal

pub returns-then-stored-at : goal.returns-then-stored-at
returns-then-stored-at c = past_at c.args.s.now c.args.base c.args.stored c.args.at c.args.id c.requires.0 c.if-stored-at.true

pub get8-requires : goal.get8-requires
get8-requires c = let p = c.requires.0 in let q = c.requires.1 in let t = c.if-stored-at.false in omega arith

pub returns : goal.returns
returns c =
    key-at c.args.s.now c.args.base c.args.stored c.args.at c.args.id c.requires.0 c.if-stored-at.false c.get8.result c.get8.ensures
