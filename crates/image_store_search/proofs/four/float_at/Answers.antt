use mathlib.Core.Path.{◌∙◌, ap}
use Prim.Native.Nat.{ℕ}
use Rattle.log_store.proofs.Bits.{domain_number}
use Rattle.spec.specs.Nearest.Order.{bits_in_domain}
use Rattle.image_store_search.proofs.four.float_at.Goals as goal

pub get4-requires : goal.get4-requires
get4-requires c = c.requires.there

pub float_from_bits-result : goal.float_from_bits-result
float_from_bits-result c = domain_number _ (ap bits_in_domain c.get4.ensures ∙ c.requires.inside)

pub returns : goal.returns
returns c = ap (λ (b : ℕ). Rattle.spec.specs.Node.Wire.float_of b) c.get4.ensures
