use native.Mathlib.Omega.{arith}
use mathlib.Core.Path.{sym, ap}
use lib.ListN.{take}
use Rattle.node_header.proofs.Formed.{header-few}
use Rattle.image_header.specs.Image.{node_at}
use Rattle.image_header.proofs.Image.{lent_long}
use Rattle.image_header_check.proofs.Rows.{counted}
use Rattle.map_tables.specs.declared.Nodes.{Nodes}
use Rattle.image_show.proofs.MapRows.{nodes-is}
use Rattle.calls_show.proofs.ShowLaws.{hear_older, hear_dead, hear_taken}
use Rattle.calls_show.proofs.show.hear.Goals as goal

pub get8-count-requires : goal.get8-count-requires
get8-count-requires c = let l = lent_long c.args.header.now c.requires.0 in omega arith

pub get8-requires : goal.get8-requires
get8-requires c = let l = c.requires.2.long in omega arith

pub get8-requires-2 : goal.get8-requires-2
get8-requires-2 c = let l = lent_long c.args.header.now c.requires.0 in omega arith

pub ignore-requires : goal.ignore-requires
ignore-requires c =
    let s = c.args.header.now in let l = lent_long s c.requires.0 in let w = header-few (node_at s) c.requires.1 in let k = counted s in let e = c.get8-count.ensures in (l, omega arith, sym e)

pub returns-then-get8 : goal.returns-then-get8
returns-then-get8 c =
    let a = c.args in let g = c.get8.ensures in let h = c.get8-2.ensures in let lt = c.if-get8.true in hear_older a.header.now a.map.now a.fresh c.requires.1 (omega arith) _ a.starts.now a.answer.now _ _ c.ignore.ensures

pub get8-id-requires : goal.get8-id-requires
get8-id-requires c = let l = lent_long c.args.header.now c.requires.0 in omega arith

pub get8-own-requires : goal.get8-own-requires
get8-own-requires c = let l = lent_long c.args.header.now c.requires.0 in omega arith

pub get8-nodes-requires : goal.get8-nodes-requires
get8-nodes-requires c = let l = c.requires.2.long in omega arith

pub dead_in-requires : goal.dead_in-requires
dead_in-requires c =
    let q = c.requires.2.tables.nodes in let e = ap (λ (x : Nodes). x.count) (nodes-is c.args.map.now) in let g = c.get8-nodes.ensures in (c.requires.2.long, omega arith, sym g)

pub start_over-requires : goal.start_over-requires
start_over-requires c = lent_long c.args.header.now c.requires.0

pub returns-then-dead_in : goal.returns-then-dead_in
returns-then-dead_in c =
    let a = c.args in let g = c.get8.ensures in let h = c.get8-2.ensures in let ge = c.if-get8.false in hear_dead a.header.now a.map.now a.fresh c.requires.1 (omega arith) c.get8-id.result c.get8-own.result c.get8-id.ensures c.get8-own.ensures c.dead_in.result c.dead_in.ensures c.if-dead_in.true _ a.starts.now a.answer.now _ _ c.start_over.ensures

pub take-requires : goal.take-requires
take-requires c =
    let s = c.args.header.now in let l = lent_long s c.requires.0 in let w = header-few (node_at s) c.requires.1 in let k = counted s in let e = c.get8-count.ensures in ((l, omega arith, sym e), c.requires.1, c.requires.2)

pub returns : goal.returns
returns c =
    let a = c.args in let g = c.get8.ensures in let h = c.get8-2.ensures in let ge = c.if-get8.false in hear_taken a.header.now a.map.now a.fresh c.requires.1 (omega arith) c.get8-id.result c.get8-own.result c.get8-id.ensures c.get8-own.ensures c.dead_in.result c.dead_in.ensures c.if-dead_in.false _ a.starts.now _ a.answer.now _ _ c.take.ensures
