use mathlib.Core.Option.{some}
use Rattle.spec.specs.Node.Lease.{raised}
use mathlib.Core.Path.{ap}
use Rattle.node_admit.proofs.lease.raise.Goals as goal

pub returns-in-None : goal.returns-in-None
unfolding raised
returns-in-None c = rw c.in-None.is

pub returns-in-Some : goal.returns-in-Some
unfolding raised
returns-in-Some c = rw c.in-Some.is (ap some c.max.ensures)
