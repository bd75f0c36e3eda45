use native.Mathlib.Omega.{arith}
use Rattle.log_arrange.proofs.Filling.{never}
use Rattle.log_search.proofs.column.four_whole.Goals as goal

pub returns-then-stored-i : goal.returns-then-stored-i
returns-then-stored-i c = λ e. never e

pub returns-then-not-is_whole : goal.returns-then-not-is_whole
returns-then-not-is_whole c = λ e. never e

pub returns-then-not-is_whole-2 : goal.returns-then-not-is_whole-2
returns-then-not-is_whole-2 c = λ e. never e

pub returns-then-not-is_whole-3 : goal.returns-then-not-is_whole-3
returns-then-not-is_whole-3 c = λ e. never e

pub returns : goal.returns
returns c =
    λ e. record {
      rows = omega (arith, c.if-stored-i.false);
      first = c.is_whole.ensures (c.if-not-is_whole.false);
      second = c.is_whole-2.ensures (c.if-not-is_whole-2.false);
      third = c.is_whole-3.ensures (c.if-not-is_whole-3.false);
      fourth = c.is_whole-4.ensures e;
    }
