use Rattle.float_root.proofs.Scale.{radicand_even, radicand_odd}
use Rattle.float_root.proofs.radicand.Goals as goal

pub returns-then-j-eq0 : goal.returns-then-j-eq0
returns-then-j-eq0 c =
    radicand_even c.args.m c.args.j c.requires.0 c.requires.1
    c.requires.2 c.if-j-eq0.true

pub returns-else-j-eq0 : goal.returns-else-j-eq0
returns-else-j-eq0 c =
    radicand_odd c.args.m c.args.j c.requires.0 c.requires.1
    c.requires.2 c.if-j-eq0.false
