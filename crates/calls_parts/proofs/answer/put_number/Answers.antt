use borrow.Author.Tests.{le-leb, lt-leb}
use mathlib.Core.Path.{sym, ◌∙◌}
use Rattle.calls_parts.proofs.AnswerLaws.{number_put_lem, number_unput}
use Rattle.calls_parts.proofs.answer.put_number.Goals as goal

pub returns-then-answer-lt8 : goal.returns-then-answer-lt8
returns-then-answer-lt8 c =
    let a = c.args in
    let short = lt-leb 8 _ c.if-answer-lt8.true in
    (sym short, sym (number_unput a.answer.now a.x short))

pub returns : goal.returns
returns c =
    let a = c.args in
    let long = le-leb 8 _ c.if-answer-lt8.false in
    (sym long, c.put8.ensures ∙ sym (number_put_lem a.answer.now a.x long))
