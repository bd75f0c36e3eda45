use mathlib.Core.Path.{sym, ◌∙◌}
use Rattle.log_store.proofs.Bits.{domain_number}
use Rattle.test_lines.proofs.parts.float_of.Goals as goal

pub float_from_bits-result : goal.float_from_bits-result
float_from_bits-result c = domain_number _ (sym c.bits_in_domain.ensures ∙ c.if-not-bits_in_domain.false)
