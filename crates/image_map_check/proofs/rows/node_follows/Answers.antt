use native.Mathlib.Omega.{arith}
use Rattle.image_map_check.proofs.RowLaws.{node_over, node-first, node-after}
use Rattle.image_map_check.proofs.rows.node_follows.Goals as goal

pub returns-then-get8-gt64 : goal.returns-then-get8-gt64
returns-then-get8-gt64 c =
    let e = c.get8.ensures in let t = c.if-get8-gt64.true in node_over c.args.s.now c.args.i c.args.before c.args.at (omega arith)

pub returns-then-i-eq0 : goal.returns-then-i-eq0
returns-then-i-eq0 c =
    let e = c.get8.ensures in let t = c.if-get8-gt64.false in node-first c.args.s.now c.args.i c.args.before c.args.at (omega arith) c.if-i-eq0.true

pub returns : goal.returns
returns c =
    let e = c.get8.ensures in let t = c.if-get8-gt64.false in node-after c.args.s.now c.args.i c.args.before c.args.at (omega arith) c.if-i-eq0.false _ _ c.get8-2.ensures c.get8-3.ensures
