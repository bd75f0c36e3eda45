use mathlib.Core.Path.{◌∙◌, ap}
use Rattle.map_tables.specs.View.{view_session}
use Rattle.map_tables.specs.declared.SessionRow.{SessionRow}
use Rattle.image_map_row.specs.Rows.{session_bytes}
use Rattle.image_map_form.specs.Canon.{image_session}
use Rattle.image_map_put.proofs.Tidy.{stored_row}
use Rattle.image_map_put.proofs.rows.session_tidied.Goals as goal

pub returns : goal.returns
returns c =
    stored_row session_bytes 80 (c.tidy_session-row.ensures ∙ ap (λ (x : SessionRow). image_session (view_session x)) c.session_at-read.ensures) c.put_session.ensures
