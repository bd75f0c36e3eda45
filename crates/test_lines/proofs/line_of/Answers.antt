use Rattle.test_lines.proofs.NumberLaws.{line_for}
use Rattle.test_lines.proofs.line_of.Goals as goal

pub returns : goal.returns
returns c = line_for _ _ _ _ c.word_of-w.ensures
