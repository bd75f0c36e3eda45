use Rattle.test_lines.proofs.NumberLaws.{applied_for, rejected_for, refused_for}
use Rattle.test_lines.proofs.word_of.Goals as goal

pub returns-then-number-eq0 : goal.returns-then-number-eq0
returns-then-number-eq0 c = applied_for _ c.if-number-eq0.true

pub returns-then-number-le16 : goal.returns-then-number-le16
returns-then-number-le16 c = rejected_for _ c.if-number-eq0.false c.if-number-le16.true

pub returns : goal.returns
returns c = refused_for _ c.if-number-eq0.false c.if-number-le16.false
