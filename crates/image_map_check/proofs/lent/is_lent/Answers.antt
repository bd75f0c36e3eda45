use mathlib.Core.Path.{sym, ◌∙◌}
use Rattle.image_map.proofs.Image.{lent-short}
use Rattle.image_map_check.proofs.RowLaws.{listed_lent}
use Rattle.image_map_check.proofs.lent.is_lent.Goals as goal

pub returns-then-s-lt-IMAGE : goal.returns-then-s-lt-IMAGE
returns-then-s-lt-IMAGE c = sym (lent-short c.args.s.now c.if-s-lt-IMAGE.true)

pub returns : goal.returns
returns c = c.codes_listed.ensures ∙ listed_lent c.args.s.now c.if-s-lt-IMAGE.false
