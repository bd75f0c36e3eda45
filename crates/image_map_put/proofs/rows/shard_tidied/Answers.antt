use mathlib.Core.Path.{◌∙◌, ap}
use Rattle.map_tables.specs.View.{view_shard}
use Rattle.map_tables.specs.declared.ShardRow.{ShardRow}
use Rattle.image_map_row.specs.Rows.{shard_bytes}
use Rattle.image_map_form.specs.Canon.{image_shard}
use Rattle.image_map_put.proofs.Tidy.{stored_row}
use Rattle.image_map_put.proofs.rows.shard_tidied.Goals as goal

pub returns : goal.returns
returns c =
    stored_row shard_bytes 272 (c.tidy_shard-row.ensures ∙ ap (λ (x : ShardRow). image_shard (view_shard x)) c.shard_at-read.ensures) c.put_shard.ensures
