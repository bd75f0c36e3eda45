use native.Mathlib.Omega.{arith}
use mathlib.Core.Path.{sym, ◌∙◌, ap}
use Rattle.num_position.specs.Answers.{fielded}
use Rattle.spec_position.specs.Positions.{to_fields}
use Rattle.calls_position.specs.Calls.{fields_bytes}
use Rattle.calls_position.proofs.Bytes.{fields_size}
use Rattle.calls_position.proofs.Pattern.{read_at_lem}
use Rattle.calls_position.proofs.Answered.{answers_23, answers}
use Rattle.calls_position.proofs.position_fields.Goals as goal

pub returns-then-fields-lt28 : goal.returns-then-fields-lt28
returns-then-fields-lt28 c =
    answers_23 fields_bytes _ _ _ (sym (c.to_fields.ensures ∙ ap to_fields (read_at_lem _ _ c.ranges.ra c.ranges.dec)) ∙ ap fielded c.in-Ok.is)
    (omega (arith, fields_size c.in-Ok.f))

pub returns-else-fields-lt28 : goal.returns-else-fields-lt28
returns-else-fields-lt28 c =
    answers fields_bytes _ _ _ (sym (c.to_fields.ensures ∙ ap to_fields (read_at_lem _ _ c.ranges.ra c.ranges.dec)) ∙ ap fielded c.in-Ok.is)
    _ (omega (arith, fields_size c.in-Ok.f)) c.put_fields.ensures
