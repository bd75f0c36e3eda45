use mathlib.Core.Path.{sym, ap}
use mathlib.Core.Bool.{Bool, cond}
use Prim.Native.Nat.{◌+◌}
use borrow.Author.Tests.{eq-eqb, ne_eqb}
use Rattle.log_domain.proofs.growth.after.Goals as goal

pub returns-then-offset-next : goal.returns-then-offset-next
returns-then-offset-next c = sym (ap (λ (b : Bool). cond b (c.args.last + 1) c.args.last) (ne_eqb _ _ c.if-offset-next.true))

pub returns : goal.returns
returns c = sym (ap (λ (b : Bool). cond b (c.args.last + 1) c.args.last) (eq-eqb _ _ c.if-offset-next.false))
