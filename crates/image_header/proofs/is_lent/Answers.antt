use mathlib.Core.Path.{sym, ◌∙◌}
use Rattle.image_header.proofs.Image.{lent-short, lent_listed}
use Rattle.image_header.proofs.is_lent.Goals as goal

pub returns-then-s-lt10288 : goal.returns-then-s-lt10288
returns-then-s-lt10288 c = sym (lent-short c.args.s.now c.if-s-lt10288.true)

pub returns : goal.returns
returns c = c.codes_listed.ensures ∙ lent_listed c.args.s.now c.if-s-lt10288.false
