use borrow.Author.Rules.{rules}
use native.Mathlib.Omega.{arith}
use mathlib.Core.Path.{◌≡◌, refl, sym, ◌∙◌, ap}
use Prim.Native.Nat.{ℕ, ◌+◌, ◌*◌}
use lib.ListN.{get_or, take}
use mathlib.Core.List.{map}
use lib.Seq.{take_all}
use Rattle.spec.specs.Layout.Format.{number_at}
use Rattle.spec.specs.Map.Place.{replicas_of}
use Rattle.spec_sheet.specs.Sheet.{loaded_of}
use Rattle.map_tables.specs.View.{view_node, view_nodes, view_shards}
use Rattle.map_tables.specs.declared.NodeRow.{NodeRow}
use Rattle.map_tables.proofs.Tables.{used-size}
use Rattle.image_map_row.specs.Rows.{node_at}
use Rattle.image_map.specs.Image.{no_node, nodes_at, shards_at}
use Rattle.image_map_check.proofs.RowLaws.{rows_long, rows_row, node-is}
use Rattle.image_map_sheet.specs.Answers.{view_load}
use Rattle.image_map_sheet.proofs.Counting.{line-next}
use Rattle.image_map_sheet.proofs.lines.lines.Goals as goal

pub loop-i-init : goal.loop-i-init
loop-i-init c = (omega arith, refl, refl)

pub replicas_of-n-requires : goal.replicas_of-n-requires
replicas_of-n-requires c = (c.requires.0.0, c.requires.1, c.requires.2)

pub loop-i-preserved : goal.loop-i-preserved
loop-i-preserved c =
    let s = c.args.s.now in let few = c.requires.0.1 in let k = c.requires.0.2 in let lt = c.loop-i-test.true in let l = rows_long 32 96 40 (node_at s) no_node (number_at 8 s 8) (omega arith) in let g = c.loop-i.invariant.1 in
    let row : (get_or (nodes_at s).items c.loop-i.i no_node).node.0 ≡ c.get8-id.result = ap (λ (x : NodeRow). x.node.0) (rows_row 32 96 40 (node_at s) no_node (number_at 8 s 8) (omega arith) c.loop-i.i no_node (omega arith)) ∙ node-is s (40 + 96 * c.loop-i.i) ∙ sym c.get8-id.ensures in
    (omega arith, search rules, line-next view_load (loaded_of (view_shards (shards_at s))) view_node c.loop-i.items (nodes_at s).items (number_at 8 s 8) c.loop-i.i no_node _ (omega arith) (omega arith) (omega arith) c.loop-i.invariant.2 (ap (λ (n : ℕ). record { node = c.get8-id.result; count = n }) c.replicas_of-n.ensures.0 ∙ ap (λ (n : ℕ). record { node = n; count = replicas_of n (view_shards (shards_at s)) }) (sym row)))

pub returns : goal.returns
returns c =
    let s = c.args.s.now in let few = c.requires.0.1 in let k = c.requires.0.2 in let lt = c.loop-i-test.false in let le = c.loop-i.invariant.0 in let l = rows_long 32 96 40 (node_at s) no_node (number_at 8 s 8) (omega arith) in let u = used-size view_node (nodes_at s).items (number_at 8 s 8) (omega arith) in let e : c.loop-i.i ≡ c.args.nodes = omega arith in
    (ap (λ (j : ℕ). map view_load (take j c.loop-i.items)) (sym e) ∙ c.loop-i.invariant.2 ∙ ap (map (loaded_of (view_shards (shards_at s)))) (take_all c.loop-i.i (view_nodes (nodes_at s)) (omega arith)), few)
