use native.Mathlib.Omega.{arith}
use borrow.Author.Rules.{rules}
use mathlib.Core.Path.{ap, ◌∙◌, ◌≡◌}
use Prim.Native.Nat.{ℕ, ◌*◌, ◌+◌}
use mathlib.Core.Bool.{false, true}
use Rattle.spec.specs.Layout.Format.{number_at}
use Rattle.map_tables.specs.View.{view_node}
use Rattle.image_map_row.specs.Rows.{node_at}
use Rattle.image_map.specs.Image.{no_node}
use Rattle.image_map_check.proofs.RowLaws.{led_first, node-is}
use lib.Dec.{ltb}
use Rattle.spec.specs.Map.Tables as tables
use Rattle.image_map_check.proofs.room.node_room.Goals as goal

pub returns : goal.returns
returns c =
    let e = c.requires.2 in let k = c.requires.1 in let w = c.first_passing.ensures.within in
    led_first 32 96 40 (node_at c.args.s.now) no_node (number_at 8 c.args.s.now 8) view_node (λ (y : tables.NodeInfo). ltb y.node c.args.node) (omega arith) c.first_passing.result (omega arith)
    (λ i lt. let b = c.first_passing.ensures.before i lt in let z : ltb (number_at 8 c.args.s.now (40 + 96 * i)) c.args.node ≡ true = search rules in ap (λ (x : ℕ). ltb x c.args.node) (node-is c.args.s.now (40 + 96 * i)) ∙ z)
    (λ lt. let b = c.first_passing.ensures.found (omega arith) in let z : ltb (number_at 8 c.args.s.now (40 + 96 * c.first_passing.result)) c.args.node ≡ false = search rules in ap (λ (x : ℕ). ltb x c.args.node) (node-is c.args.s.now (40 + 96 * c.first_passing.result)) ∙ z)
