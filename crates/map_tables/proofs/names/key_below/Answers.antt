use mathlib.Core.Path.{sym, ◌∙◌}
use Rattle.spec.specs.Keys.{key_below}
use Rattle.spec.specs.Lists.{◌and◌, ◌or◌}
use Rattle.map_tables.proofs.names.key_below.Goals as goal

pub returns-then-name_below : goal.returns-then-name_below
unfolding key_below ◌or◌
returns-then-name_below c = c.if-name_below.true ∙ rw (sym c.name_below.ensures ∙ c.if-name_below.true)

pub returns-then-same_name : goal.returns-then-same_name
unfolding key_below ◌or◌ ◌and◌
returns-then-same_name c = rw (sym c.name_below.ensures ∙ c.if-name_below.false, sym c.same_name.ensures ∙ c.if-same_name.true)

pub returns-else-same_name : goal.returns-else-same_name
unfolding key_below ◌or◌ ◌and◌
returns-else-same_name c = c.if-same_name.false ∙ rw (sym c.name_below.ensures ∙ c.if-name_below.false, sym c.same_name.ensures ∙ c.if-same_name.false)
