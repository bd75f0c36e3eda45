use borrow.Author.Rules.{rules}
use Rattle.calls_count.proofs.AnswerLaws.{id-there, id-none}
use Rattle.calls_count.proofs.ids.id_at.Goals as goal

pub returns-then-s-at : goal.returns-then-s-at
returns-then-s-at c = id-none c.args.s.now c.args.at (search rules)

pub returns : goal.returns
returns c = id-there c.args.s.now _ c.args.at (search rules) c.get8.ensures
