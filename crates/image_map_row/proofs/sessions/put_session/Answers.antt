use mathlib.Core.Path.{ap}
use Rattle.image_parts.specs.declared.Coded.{Coded}
use Rattle.image_map_row.specs.Rows.{session_bytes}
use Rattle.image_parts.specs.Parts.{key_bytes}
use Rattle.image_parts.specs.Codes.{outcome_coded}
use Rattle.image_parts.proofs.Images.{stored-then, stored-word, stored_as_lem}
use Rattle.image_map_row.proofs.sessions.put_session.Goals as goal

pub returns : goal.returns
unfolding session_bytes key_bytes
returns c =
    let r = c.args.r in
    let e = c.outcome_coded-coded.ensures in
    let o = outcome_coded r.outcome in
    let m = c.outcome_coded-coded.result in
    stored-then (stored-then (stored-then (stored-then (stored-then (stored-word 8 r.client c.put8.ensures) (stored-word 8 r.seq c.put8-2.ensures)) c.put_key.ensures) (stored_as_lem 4 m.code o.code (ap (λ (x : Coded). x.code) e) c.put4.ensures)) (stored_as_lem 8 m.first o.first (ap (λ (x : Coded). x.first) e) c.put8-3.ensures)) (stored_as_lem 8 m.second o.second (ap (λ (x : Coded). x.second) e) c.put8-4.ensures)
