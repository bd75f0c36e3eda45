use Rattle.spec_laws.proofs.Lists.{not_both}
use mathlib.Core.Bool.{true, false}
use mathlib.Core.Path.{refl}
use Rattle.calls_copy.proofs.held.is_stale.Goals as goal

pub returns-then-n-eq0 : goal.returns-then-n-eq0
returns-then-n-eq0 c = record { yes = λ e. not_both false e refl; nay = λ e z. z.0 c.if-n-eq0.true }

pub returns-then-epoch-own : goal.returns-then-epoch-own
returns-then-epoch-own c = record { yes = λ e. not_both false e refl; nay = λ e z. z.1 c.if-epoch-own.true }

pub returns : goal.returns
returns c = record { yes = λ e. (c.if-n-eq0.false, c.if-epoch-own.false); nay = λ e. not_both true refl e }
