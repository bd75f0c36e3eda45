use borrow.Author.Rules.{rules}
use native.Mathlib.Omega.{arith}
use mathlib.Core.Path.{sym, ◌∙◌, ap}
use Rattle.num_position.specs.Answers.{vectored}
use Rattle.spec_position.specs.Positions.{to_vector}
use Rattle.calls_position.specs.Calls.{vector_bytes}
use Rattle.calls_position.proofs.Bytes.{vector-size}
use Rattle.calls_position.proofs.Vector.{vector_numbers}
use Rattle.calls_position.proofs.Pattern.{read_at_lem}
use Rattle.calls_position.proofs.Answered.{answers_23, answers}
use Rattle.calls_position.proofs.position_vector.Goals as goal

pub returns-then-vector-lt17 : goal.returns-then-vector-lt17
returns-then-vector-lt17 c =
    answers_23 vector_bytes _ _ _ (sym (c.to_vector.ensures ∙ ap to_vector (read_at_lem _ _ c.ranges.ra c.ranges.dec)) ∙ ap vectored c.in-Some.is)
    (omega (arith, vector-size c.in-Some.v.0 c.in-Some.v.1 c.in-Some.v.2 c.in-Some.v.3))

pub put_vector-requires : goal.put_vector-requires
put_vector-requires c =
    (search rules, vector_numbers _ _ (sym (c.to_vector.ensures ∙ ap to_vector (read_at_lem _ _ c.ranges.ra c.ranges.dec)) ∙ ap vectored c.in-Some.is))

pub returns : goal.returns
returns c =
    answers vector_bytes _ _ _ (sym (c.to_vector.ensures ∙ ap to_vector (read_at_lem _ _ c.ranges.ra c.ranges.dec)) ∙ ap vectored c.in-Some.is)
    _ (omega (arith, vector-size c.in-Some.v.0 c.in-Some.v.1 c.in-Some.v.2 c.in-Some.v.3)) c.put_vector.ensures
