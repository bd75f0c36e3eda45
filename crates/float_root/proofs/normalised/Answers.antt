use Rattle.std.proofs.Common.{◌≡◌, ℕ, ◌-◌, ◌*◌, ◌/◌, ◌%◌, ◌^◌, ◌<◌, sym, subst, pos_of_ne-zero, arith}
use lib.Count.{count_leading_zeros}
use Rattle.spec.specs.Nearest.Order.{units_at}
use Rattle.float_root.specs.Digits.{IsNormal}
use Rattle.float_root.proofs.Scale.{Shifted, shifted, of_normal}
use Rattle.float_root.proofs.normalised.Goals as goal

digits : (b : ℕ) → 0 < b → b / 8388608 ≡ 0 → Shifted (b % 8388608)
digits b p e = shifted (b % 8388608) (omega arith) (omega arith)

pub overflow_sub-s : goal.overflow_sub-s
overflow_sub-s c = (digits c.args.b c.requires.0 c.if-e-eq0.true).least

pub overflow_shl-result : goal.overflow_shl-result
overflow_shl-result c = omega (arith, (digits c.args.b c.requires.0 c.if-e-eq0.true).most)

pub overflow_sub-result : goal.overflow_sub-result
overflow_sub-result c = omega (arith, (digits c.args.b c.requires.0 c.if-e-eq0.true).most)

pub returns-then-e-eq0 : goal.returns-then-e-eq0
returns-then-e-eq0 c =
    let b = c.args.b in
    let s = count_leading_zeros 32 (b % 8388608) - 8 in
    subst (λ (e : ℕ). IsNormal (units_at e (b % 8388608)) (b % 8388608 * 2 ^ s % 2 ^ 32) (128 - s))
    (sym c.if-e-eq0.true) (digits b c.requires.0 c.if-e-eq0.true).normal

pub returns-else-e-eq0 : goal.returns-else-e-eq0
returns-else-e-eq0 c =
    let b = c.args.b in
    of_normal (b / 8388608) (b % 8388608) (omega (arith, pos_of_ne-zero c.if-e-eq0.false)) (omega arith) (omega arith)
