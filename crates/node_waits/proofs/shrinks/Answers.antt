use borrow.Author.Tests.{lt-ltb, le-ltb}
use mathlib.Core.Path.{refl, sym, ◌∙◌}
use Rattle.spec.specs.Lists.{◌and◌}
use Rattle.node_waits.proofs.Wait.{shrink_late, shrink_not}
use Rattle.node_waits.proofs.shrinks.Goals as goal

pub returns-then-timeout-elapsed : goal.returns-then-timeout-elapsed
unfolding ◌and◌
returns-then-timeout-elapsed c =
    shrink_late c.args.last c.args.now c.args.timeout c.args.p (sym c.is_late.ensures ∙ c.if-is_late.true) c.elapsed.result c.elapsed.ensures _ (rw (lt-ltb _ _ c.if-timeout-elapsed.true) refl)

pub returns-else-timeout-elapsed : goal.returns-else-timeout-elapsed
unfolding ◌and◌
returns-else-timeout-elapsed c =
    shrink_late c.args.last c.args.now c.args.timeout c.args.p (sym c.is_late.ensures ∙ c.if-is_late.true) c.elapsed.result c.elapsed.ensures _ (rw (le-ltb _ _ c.if-timeout-elapsed.false) refl)

pub returns : goal.returns
returns c =
    shrink_not c.args.last c.args.now c.args.timeout c.args.p (sym c.is_late.ensures ∙ c.if-is_late.false)
