use Rattle.spec.specs.Map.Create.{zero_in}
use Rattle.spec.specs.Lists.{◌or◌}
use borrow.Author.Tests.{eq-eqb, ne_eqb}
use Rattle.map_create.proofs.zero_in.Goals as goal

pub returns-then-s-eq0 : goal.returns-then-s-eq0
unfolding zero_in ◌or◌
returns-then-s-eq0 c = rw (eq-eqb c.args.s.dimension 0 c.if-s-eq0.true)

pub returns-then-s-eq0-2 : goal.returns-then-s-eq0-2
unfolding zero_in ◌or◌
returns-then-s-eq0-2 c = rw (ne_eqb c.args.s.dimension 0 c.if-s-eq0.false, eq-eqb c.args.s.shards 0 c.if-s-eq0-2.true)

pub returns-then-s-eq0-3 : goal.returns-then-s-eq0-3
unfolding zero_in ◌or◌
returns-then-s-eq0-3 c =
    rw (ne_eqb c.args.s.dimension 0 c.if-s-eq0.false, ne_eqb c.args.s.shards 0 c.if-s-eq0-2.false, eq-eqb c.args.s.replication 0 c.if-s-eq0-3.true)

pub returns : goal.returns
unfolding zero_in ◌or◌
returns c =
    rw (ne_eqb c.args.s.dimension 0 c.if-s-eq0.false, ne_eqb c.args.s.shards 0 c.if-s-eq0-2.false, ne_eqb c.args.s.replication 0 c.if-s-eq0-3.false)
