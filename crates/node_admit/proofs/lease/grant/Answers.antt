use Rattle.node_admit.proofs.LeaseLaws.{grants_own, grants_other}
use Rattle.node_admit.proofs.lease.grant.Goals as goal

pub returns-then-incarnation-own : goal.returns-then-incarnation-own
returns-then-incarnation-own c =
    grants_own c.args.own c.args.e c.args.incarnation c.args.sent c.args.lease c.if-incarnation-own.true c.raise.result c.raise.ensures

pub returns : goal.returns
returns c =
    grants_other c.args.own c.args.e c.args.incarnation c.args.sent c.args.lease c.if-incarnation-own.false
