use native.Mathlib.Omega.{arith}
use Rattle.image_store_check.proofs.Table.{past_agrees, other-agrees, same-agrees}
use Rattle.image_store_check.proofs.settled.agrees.Goals as goal

pub returns-then-stored-at : goal.returns-then-stored-at
returns-then-stored-at c =
    past_agrees c.args.s.now c.args.base c.args.stored c.args.i c.requires.1 c.requires.0 c.requires.3 c.get8-id.result c.get8-id.ensures c.seek-at.result c.seek-at.ensures c.if-stored-at.true

pub get8-requires : goal.get8-requires
get8-requires c = let p = c.requires.1 in let q = c.requires.2 in let t = c.if-stored-at.false in omega arith

pub returns-then-get8-id : goal.returns-then-get8-id
returns-then-get8-id c =
    other-agrees c.args.s.now c.args.base c.args.stored c.args.i c.requires.1 c.requires.0 c.requires.3 c.get8-id.result c.get8-id.ensures c.seek-at.result c.seek-at.ensures c.if-stored-at.false c.get8.result c.get8.ensures c.if-get8-id.true

pub get8-requires-2 : goal.get8-requires-2
get8-requires-2 c = let p = c.requires.1 in let q = c.requires.2 in let t = c.if-stored-at.false in omega arith

pub returns : goal.returns
returns c =
    same-agrees c.args.s.now c.args.base c.args.stored c.args.i c.requires.1 c.requires.0 c.requires.3 c.get8-id.result c.get8-id.ensures c.seek-at.result c.seek-at.ensures c.if-stored-at.false c.get8.result c.get8.ensures c.if-get8-id.false c.get8-2.result c.get8-2.ensures
