use borrow.Author.Tests.{eq-eqb, ne_eqb}
use mathlib.Core.Path.{refl}
use Rattle.spec.specs.Lists.{◌or◌}
use Rattle.spec.specs.Node.Ack.{bad_reply}
use Rattle.node_acks.proofs.bad.Goals as goal

pub returns-in-Stored : goal.returns-in-Stored
unfolding bad_reply
returns-in-Stored c = rw c.in-Stored.is

pub returns-then-n-eq0 : goal.returns-then-n-eq0
unfolding bad_reply ◌or◌
returns-then-n-eq0 c = rw (c.in-Gap.is, eq-eqb _ _ c.if-n-eq0.true) refl

pub returns-else-n-eq0 : goal.returns-else-n-eq0
unfolding bad_reply ◌or◌
returns-else-n-eq0 c = rw (c.in-Gap.is, ne_eqb _ _ c.if-n-eq0.false) refl

pub returns-in-Stale : goal.returns-in-Stale
unfolding bad_reply
returns-in-Stale c = rw c.in-Stale.is

pub returns-in-Adopted : goal.returns-in-Adopted
unfolding bad_reply
returns-in-Adopted c = rw c.in-Adopted.is
