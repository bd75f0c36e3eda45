use borrow.Author.Rules.{rules}
use Rattle.calls_count.proofs.AnswerLaws.{six_short, six_put}
use Rattle.calls_count.proofs.answer.put_six.Goals as goal

pub returns-then-out-lt48 : goal.returns-then-out-lt48
returns-then-out-lt48 c = six_short c.args.counts c.args.out.now (search rules)

pub returns : goal.returns
returns c = six_put c.args.counts c.args.out.now _ (search rules) (search rules) c.put_words8.ensures
