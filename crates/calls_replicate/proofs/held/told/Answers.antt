use mathlib.Core.Path.{sym, ap}
use Prim.Native.Nat.{◌+◌}
use mathlib.Core.Bool.{Bool, cond}
use borrow.Author.Tests.{le-leb, lt-leb}
use Rattle.wire_write.specs.declared.Reply.TheVariants as R
use Rattle.calls_replicate.proofs.held.told.Goals as goal

pub returns-then-offset-last : goal.returns-then-offset-last
returns-then-offset-last c =
    let a = c.args in sym (ap (λ (b : Bool). cond b (R.Stored (record { 0 = a.last })) (R.Gap (record { 0 = a.last + 1 }))) (le-leb _ _ c.if-offset-last.true))

pub returns : goal.returns
returns c =
    let a = c.args in sym (ap (λ (b : Bool). cond b (R.Stored (record { 0 = a.last })) (R.Gap (record { 0 = a.last + 1 }))) (lt-leb _ _ c.if-offset-last.false))
