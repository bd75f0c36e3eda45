use native.Mathlib.Omega.{arith}
use mathlib.Core.Path.{◌≡◌, sym, ap}
use Prim.Native.Nat.{ℕ}
use Rattle.spec.specs.Nearest.Order.{Class, class, negNan, negInf, negNumber, negZero, posZero, posNumber, posInf, posNan}
use Rattle.spec_laws.proofs.Nearest.Classes.{Range, range_class}
use Rattle.float_order.specs.Classes.{shown}
use Rattle.float_order.proofs.class_of.Goals as goal

made : (c : Class) (b : ℕ) → Range c b → shown c ≡ shown (class b)
made c b r = ap shown (sym (range_class c b r))

pub returns-then-b-eq0 : goal.returns-then-b-eq0
returns-then-b-eq0 c = made posZero _ c.if-b-eq0.true

pub returns-then-b-lt2139095040 : goal.returns-then-b-lt2139095040
returns-then-b-lt2139095040 c = made posNumber _ (omega (arith, c.if-b-eq0.false), c.if-b-lt2139095040.true)

pub returns-then-b-eq2139095040 : goal.returns-then-b-eq2139095040
returns-then-b-eq2139095040 c = made posInf _ c.if-b-eq2139095040.true

pub returns-then-b-lt2147483648 : goal.returns-then-b-lt2147483648
returns-then-b-lt2147483648 c =
    made posNan _ (omega (arith, c.if-b-lt2139095040.false, c.if-b-eq2139095040.false), c.if-b-lt2147483648.true)

pub returns-then-b-eq2147483648 : goal.returns-then-b-eq2147483648
returns-then-b-eq2147483648 c = made negZero _ c.if-b-eq2147483648.true

pub returns-then-b-lt4286578688 : goal.returns-then-b-lt4286578688
returns-then-b-lt4286578688 c =
    made negNumber _ (omega (arith, c.if-b-lt2147483648.false, c.if-b-eq2147483648.false), c.if-b-lt4286578688.true)

pub returns-then-b-eq4286578688 : goal.returns-then-b-eq4286578688
returns-then-b-eq4286578688 c = made negInf _ c.if-b-eq4286578688.true

pub returns : goal.returns
returns c = made negNan _ (omega (arith, c.if-b-lt4286578688.false, c.if-b-eq4286578688.false))
