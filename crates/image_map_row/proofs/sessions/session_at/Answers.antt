use Rattle.image_map_row.specs.Rows.{session_at}
use Rattle.image_parts.specs.Parts.{key_at}
use Rattle.image_map_row.proofs.sessions.session_at.Goals as goal

pub returns : goal.returns
unfolding session_at key_at
returns c =
    rw (c.outcome_of-outcome.ensures, c.get4.ensures, c.get8.ensures, c.get8-2.ensures, c.get8-3.ensures, c.get8-4.ensures, c.key_at-key.ensures)
