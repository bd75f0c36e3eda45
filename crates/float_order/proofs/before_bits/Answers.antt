use mathlib.Core.Path.{sym}
use Rattle.spec_laws.proofs.Nearest.Classes.{before_plus}
use Rattle.float_order.proofs.before_bits.Goals as goal

pub returns-then-b-lt2147483648 : goal.returns-then-b-lt2147483648
returns-then-b-lt2147483648 c = sym (before_plus _ _ c.if-a-lt2147483648.true c.if-b-lt2147483648.true)
