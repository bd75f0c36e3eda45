use native.Mathlib.Omega.{arith}
use mathlib.Core.Path.{sym}
use Rattle.spec_position.proofs.FieldLaws.{not_in_lem, facts_in}
use Rattle.num_position.proofs.parts.in_range.Goals as goal

pub returns-then-f-gt23 : goal.returns-then-f-gt23
returns-then-f-gt23 c = sym (not_in_lem _ (λ r. omega arith))

pub returns-then-f-gt59 : goal.returns-then-f-gt59
returns-then-f-gt59 c = sym (not_in_lem _ (λ r. omega arith))

pub returns-then-f-gt59999 : goal.returns-then-f-gt59999
returns-then-f-gt59999 c = sym (not_in_lem _ (λ r. omega arith))

pub returns-then-f-gt90 : goal.returns-then-f-gt90
returns-then-f-gt90 c = sym (not_in_lem _ (λ r. omega arith))

pub returns-then-f-gt59-2 : goal.returns-then-f-gt59-2
returns-then-f-gt59-2 c = sym (not_in_lem _ (λ r. omega arith))

pub returns-then-f-gt59999-2 : goal.returns-then-f-gt59999-2
returns-then-f-gt59999-2 c = sym (not_in_lem _ (λ r. omega arith))

pub returns-then-size-gt324000000 : goal.returns-then-size-gt324000000
returns-then-size-gt324000000 c = sym (not_in_lem _ (λ r. omega arith))

pub returns-then-f-gt1 : goal.returns-then-f-gt1
returns-then-f-gt1 c = sym (not_in_lem _ (λ r. omega arith))

pub returns-then-size-f : goal.returns-then-size-f
returns-then-size-f c = sym (not_in_lem _ (λ r. omega arith))

pub returns : goal.returns
returns c = sym (facts_in _ (omega arith))
