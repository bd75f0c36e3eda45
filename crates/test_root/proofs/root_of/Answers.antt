use mathlib.Core.Path.{ap, sym, subst}
use mathlib.Core.Bool.{not}
use lib.Dec.{T}
use native.Mathlib.Nat.{not-le_of_lt}
use lib.Ieee.{Float, binary32, of_bits, to_bits, is_nan}
use Rattle.spec_laws.proofs.Nearest.Patterns.{number_pattern, plus_pattern}
use Rattle.spec_laws.proofs.Nearest.NoNan.{sqrt_no_nan}
use Rattle.test_root.proofs.root_of.Goals as goal

pub returns-then-b-ge2139095040 : goal.returns-then-b-ge2139095040
returns-then-b-ge2139095040 c = λ h. absurd (not-le_of_lt h c.if-b-ge2139095040.true)

pub float_from_bits-x : goal.float_from_bits-x
float_from_bits-x c = number_pattern c.args.b c.if-b-ge2139095040.false

pub float_to_bits-result : goal.float_to_bits-result
float_to_bits-result c =
    let b = c.args.b in
    subst (λ (y : Float). T (not (is_nan y))) (sym c.sqrt_f32-y.ensures)
    (sqrt_no_nan (of_bits binary32 b) (plus_pattern b c.if-b-ge2139095040.false))

pub returns : goal.returns
returns c = λ h. ap (to_bits binary32) c.sqrt_f32-y.ensures
