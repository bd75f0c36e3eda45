use native.Mathlib.Omega.{arith}
use mathlib.Core.Path.{sym, ◌∙◌, ap}
use Rattle.num_position.specs.Answers.{placed}
use Rattle.calls_position.specs.Calls.{position_bytes}
use Rattle.calls_position.proofs.Bytes.{position_size}
use Rattle.calls_position.proofs.Answered.{answers_23, answers}
use Rattle.calls_position.proofs.position.Goals as goal

pub returns-then-position-lt16 : goal.returns-then-position-lt16
returns-then-position-lt16 c =
    answers_23 position_bytes _ _ _ (sym c.to_position.ensures ∙ ap placed c.in-Some.is) (omega (arith, position_size c.in-Some.p))

pub returns : goal.returns
returns c =
    answers position_bytes _ _ _ (sym c.to_position.ensures ∙ ap placed c.in-Some.is) _ (omega (arith, position_size c.in-Some.p)) c.put_position.ensures
