use Rattle.spec_laws.proofs.Nearest.Domain.{domain_both, domain_not}
use Rattle.float_order.proofs.in_domain.Goals as goal

pub returns-then-x : goal.returns-then-x
returns-then-x c = domain_both c.args.x c.if-x.true

pub returns-else-x : goal.returns-else-x
returns-else-x c = domain_not c.args.x c.if-x.false
