use mathlib.Core.Path.{◌∙◌, ap}
use Rattle.map_tables.specs.View.{view_node}
use Rattle.map_tables.specs.declared.NodeRow.{NodeRow}
use Rattle.image_map_row.specs.Rows.{node_bytes}
use Rattle.image_map_form.specs.Canon.{image_node}
use Rattle.image_map_put.proofs.Tidy.{stored_row}
use Rattle.image_map_put.proofs.rows.node_tidied.Goals as goal

pub returns : goal.returns
returns c =
    stored_row node_bytes 96 (c.tidy_node-row.ensures ∙ ap (λ (x : NodeRow). image_node (view_node x)) c.node_at-read.ensures) c.put_node.ensures
