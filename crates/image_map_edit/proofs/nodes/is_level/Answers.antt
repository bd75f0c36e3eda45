use native.Mathlib.Omega.{arith}
use mathlib.Core.Path.{◌∙◌, ap}
use Prim.Native.Nat.{◌+◌, ◌*◌}
use lib.Dec.{ltb}
use borrow.Author.Tests.{lt-ltb, le-ltb}
use Rattle.spec.specs.Layout.Format.{number_at}
use Rattle.map_tables.specs.View.{view_node}
use Rattle.image_map_row.specs.Rows.{node_at}
use Rattle.image_map_check.proofs.RowLaws.{node-is}
use mathlib.Core.Bool.{true, false}
use Rattle.image_map_edit.proofs.Tables.{level_past, level-is}
use Rattle.image_map_edit.proofs.nodes.is_level.Goals as goal

pub returns-then-count-place : goal.returns-then-count-place
returns-then-count-place c =
    level_past c.args.place c.args.count (ltb c.args.node (view_node (node_at c.args.s.now (40 + 96 * c.args.place))).node) c.if-count-place.true

pub get8-requires : goal.get8-requires
get8-requires c = let a = c.requires.0 in let b = c.requires.1 in let h = c.if-count-place.false in omega arith

pub returns-then-node-get8 : goal.returns-then-node-get8
returns-then-node-get8 c =
    let h = c.if-node-get8.true in let g = c.get8.ensures in level-is c.args.place c.args.count (ltb c.args.node (view_node (node_at c.args.s.now (40 + 96 * c.args.place))).node) c.if-count-place.false true (ap (ltb c.args.node) (node-is c.args.s.now (40 + 96 * c.args.place)) ∙ lt-ltb c.args.node (number_at 8 c.args.s.now (40 + 96 * c.args.place)) (omega arith))

pub returns : goal.returns
returns c =
    let h = c.if-node-get8.false in let g = c.get8.ensures in level-is c.args.place c.args.count (ltb c.args.node (view_node (node_at c.args.s.now (40 + 96 * c.args.place))).node) c.if-count-place.false false (ap (ltb c.args.node) (node-is c.args.s.now (40 + 96 * c.args.place)) ∙ le-ltb c.args.node (number_at 8 c.args.s.now (40 + 96 * c.args.place)) (omega arith))
