use native.Mathlib.Omega.{arith}
use Rattle.image_store_check.proofs.Table.{zero_row, far-row, other_row_lem, delete_row, top-row, next_row}
use Rattle.image_store_check.proofs.rows.row_fits.Goals as goal

pub returns-then-p-eq0 : goal.returns-then-p-eq0
returns-then-p-eq0 c =
    zero_row c.args.s.now c.args.base c.args.count c.args.j c.requires.1 c.requires.0 c.get8-p.result c.get8-p.ensures c.if-p-eq0.true

pub returns-then-count-p : goal.returns-then-count-p
returns-then-count-p c =
    far-row c.args.s.now c.args.base c.args.count c.args.j c.requires.1 c.requires.0 c.get8-p.result c.get8-p.ensures c.if-count-p.true

pub get8-requires : goal.get8-requires
get8-requires c = let p = c.requires.1 in let q = c.requires.2 in let l = c.if-count-p.false in omega arith

pub returns-then-get8-key : goal.returns-then-get8-key
returns-then-get8-key c =
    other_row_lem c.args.s.now c.args.base c.args.count c.args.j c.requires.1 c.requires.0 c.get8-p.result c.get8-p.ensures c.if-p-eq0.false c.if-count-p.false c.get8-key.result c.get8-key.ensures c.get8.result c.get8.ensures c.if-get8-key.true

pub returns-then-s-base-ne1 : goal.returns-then-s-base-ne1
returns-then-s-base-ne1 c =
    delete_row c.args.s.now c.args.base c.args.count c.args.j c.requires.1 c.requires.0 c.get8-p.result c.get8-p.ensures c.if-p-eq0.false c.if-count-p.false c.get8-key.result c.get8-key.ensures c.get8.result c.get8.ensures c.if-s-base-ne1.true

pub returns-then-j-eq0 : goal.returns-then-j-eq0
returns-then-j-eq0 c =
    top-row c.args.s.now c.args.base c.args.count c.args.j c.requires.1 c.requires.0 c.get8-p.result c.get8-p.ensures c.if-p-eq0.false c.if-count-p.false c.get8-key.result c.get8-key.ensures c.get8.result c.get8.ensures c.if-get8-key.false c.if-s-base-ne1.false c.if-j-eq0.true

pub get8-requires-2 : goal.get8-requires-2
get8-requires-2 c = let p = c.requires.0 in let q = c.requires.2 in omega arith

pub returns : goal.returns
returns c =
    next_row c.args.s.now c.args.base c.args.count c.args.j c.requires.1 c.requires.0 c.get8-p.result c.get8-p.ensures c.if-p-eq0.false c.if-count-p.false c.get8-key.result c.get8-key.ensures c.get8.result c.get8.ensures c.if-get8-key.false c.if-s-base-ne1.false c.if-j-eq0.false c.get8-2.result c.get8-2.ensures
