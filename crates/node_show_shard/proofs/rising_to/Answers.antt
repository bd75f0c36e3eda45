use mathlib.Core.Path.{refl}
use Rattle.spec.specs.Lists.{◌and◌}
use Rattle.node_show_shard.proofs.rising_to.Goals as goal

pub returns-then-not-leads : goal.returns-then-not-leads
unfolding ◌and◌
returns-then-not-leads c = rw (← c.leads.ensures, c.if-not-leads.true) refl

pub returns-else-not-leads : goal.returns-else-not-leads
unfolding ◌and◌
returns-else-not-leads c = rw (← c.leads.ensures, c.if-not-leads.false) refl
