use native.Mathlib.Omega.{arith}
use mathlib.Core.Path.{◌≡◌}
use Prim.Native.Nat.{ℕ, ◌-◌, ◌<◌}
use borrow.Author.Tests.{eqb-true}
use Rattle.log_arrange.proofs.Filling.{never}
use Rattle.log_search.proofs.column.is_whole.Goals as goal

pos : (o : ℕ) → (o ≡ 0 → ⊥) → 0 < o
pos o z = omega (arith, z)

pub returns-then-offset-eq0 : goal.returns-then-offset-eq0
returns-then-offset-eq0 c = λ e. never e

pub returns-then-count-at : goal.returns-then-count-at
returns-then-count-at c = λ e. never e

pub returns-then-codes-at-ne1 : goal.returns-then-codes-at-ne1
returns-then-codes-at-ne1 c = λ e. never e

pub overflow_cast-result : goal.overflow_cast-result
overflow_cast-result c = omega (arith, c.shared_slice_known-2-1.given (c.args.offset - 1))

pub returns : goal.returns
returns c =
    let o = c.args.offset in
    let z = c.if-offset-eq0.false in
    λ e. record {
      from = pos o z;
      upto = omega (arith, pos o z, c.if-count-at.false);
      code = c.if-codes-at-ne1.false;
      long = eqb-true _ _ e;
    }
