use Rattle.spec_laws.proofs.Nearest.Domain.{domain_bits}
use Rattle.spec.specs.Nearest.Order.{bits_in_domain}
use Rattle.float_order.proofs.bits_in_domain.Goals as goal

pub returns : goal.returns
unfolding bits_in_domain
returns c = domain_bits c.args.b
