use mathlib.Core.Path.{◌∙◌, ap}
use Rattle.map_tables.specs.View.{view_collection}
use Rattle.map_tables.specs.declared.CollectionRow.{CollectionRow}
use Rattle.image_map_row.specs.Rows.{collection_bytes}
use Rattle.image_map_form.specs.Canon.{image_collection}
use Rattle.image_map_put.proofs.Tidy.{stored_row}
use Rattle.image_map_put.proofs.rows.collection_tidied.Goals as goal

pub returns : goal.returns
returns c =
    stored_row collection_bytes 56 (c.tidy_collection-row.ensures ∙ ap (λ (x : CollectionRow). image_collection (view_collection x)) c.collection_at-read.ensures) c.put_collection.ensures
