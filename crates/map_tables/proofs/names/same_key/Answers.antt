use Rattle.spec.specs.Keys.{same_key}
use Rattle.map_tables.proofs.NameLaws.{other-shard, equal_shard}
use Rattle.map_tables.specs.Names.{view_key}
use borrow.Author.Tests.{ne_eqb}
use mathlib.Core.Path.{sym, ◌∙◌}
use Rattle.map_tables.proofs.names.same_key.Goals as goal

pub returns-then-a-b : goal.returns-then-a-b
returns-then-a-b c = c.same_name.ensures ∙ sym (equal_shard (view_key c.args.a) (view_key c.args.b) c.if-a-b.true)

pub returns-else-a-b : goal.returns-else-a-b
returns-else-a-b c = ne_eqb _ _ c.if-a-b.false ∙ sym (other-shard (view_key c.args.a) (view_key c.args.b) c.if-a-b.false)
