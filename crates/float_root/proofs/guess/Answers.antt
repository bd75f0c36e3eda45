use Rattle.std.proofs.Common.{ℕ, ◌-◌, ◌*◌, ◌/◌, ◌^◌, ◌<◌, ◌≤◌, sub-le, arith}
use Rattle.float_root.proofs.Settle.{product}
use Rattle.float_root.proofs.guess.Goals as goal

-- the terms by name
abbrev first : ℕ → ℕ
first m = 3065996 - m * 418381 / 8388608

abbrev second : ℕ → ℕ
second m = 13219183 - m * first m / 8388608

first-term : (m : ℕ) → m < 2 ^ 24 → m * first m ≤ 2 ^ 24 * 3065996
first-term m h = product m (first m) 3065996 h (sub-le 3065996 (m * 418381 / 8388608))

second-term : (m : ℕ) → m < 2 ^ 24 → m * second m ≤ 2 ^ 24 * 13219183
second-term m h = product m (second m) 13219183 h (sub-le 13219183 (m * first m / 8388608))

pub overflow_mul-b : goal.overflow_mul-b
overflow_mul-b c = omega (arith, first-term c.args.m c.requires)

pub overflow_sub-b : goal.overflow_sub-b
overflow_sub-b c = omega (arith, first-term c.args.m c.requires)

pub overflow_mul-r : goal.overflow_mul-r
overflow_mul-r c = omega (arith, second-term c.args.m c.requires)

pub overflow_add-r : goal.overflow_add-r
overflow_add-r c = omega (arith, second-term c.args.m c.requires)

pub overflow_mul-result : goal.overflow_mul-result
overflow_mul-result c = omega (arith, second-term c.args.m c.requires)

pub returns-then-j-eq0 : goal.returns-then-j-eq0
returns-then-j-eq0 c = (omega arith, omega (arith, second-term c.args.m c.requires))

pub returns-else-j-eq0 : goal.returns-else-j-eq0
returns-else-j-eq0 c = (omega arith, omega (arith, second-term c.args.m c.requires))
