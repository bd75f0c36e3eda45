use native.Mathlib.Omega.{arith}
use mathlib.Core.Path.{sym, ◌∙◌, ap}
use Prim.Native.Nat.{ℕ}
use Rattle.spec.specs.Map.Create.{is_node}
use Rattle.spec.specs.Layout.Format.{number_at}
use Rattle.map_tables.specs.View.{view_node}
use Rattle.image_map_row.specs.Rows.{node_at}
use Rattle.image_map.specs.Image.{no_node, nodes_at}
use Rattle.image_map_check.proofs.RowLaws.{rows_long}
use Rattle.image_map_sheet.proofs.Counting.{known_as}
use lib.Dec.{ltb}
use Rattle.image_map_sheet.proofs.holders.is_known.Goals as goal

pub returns : goal.returns
returns c =
    let s = c.args.s.now in let k = c.requires.1 in let e = c.requires.2 in let l = rows_long 32 96 40 (node_at s) no_node (number_at 8 s 8) (omega arith) in
    ap (λ (j : ℕ). ltb c.node_place.result j) (sym e) ∙ known_as (is_node c.args.node) view_node (nodes_at s).items (number_at 8 s 8) c.node_place.result (omega arith) c.node_place.ensures
