use mathlib.Core.Path.{sym, ◌∙◌, ap}
use Rattle.spec.specs.Map.Change.{deposed}
use borrow.Author.Tests.{eq-eqb, ne_eqb}
use Rattle.map_tables.specs.View.{view_primary, view_in_sync}
use Rattle.spec.specs.declared.DataNodeId.{DataNodeId}
use Rattle.std.specs.Prelude.{Option}
use Rattle.map_shard.proofs.row_change.deposed.Goals as goal

pub returns-then-old-node : goal.returns-then-old-node
unfolding deposed
returns-then-old-node c =
    (sym (ap (λ (q : Option DataNodeId). deposed c.args.node.0 (view_primary q) (view_in_sync c.args.s)) c.in-Some.is ∙ rw (eq-eqb _ _ c.if-old-node.true)), c.requires)

pub returns-in-None : goal.returns-in-None
unfolding deposed
returns-in-None c =
    (sym (ap (λ (q : Option DataNodeId). deposed c.args.node.0 (view_primary q) (view_in_sync c.args.s)) c.in-None.is), c.requires)

pub returns-else-old-node : goal.returns-else-old-node
unfolding deposed
returns-else-old-node c =
    (c.synced_removed.ensures.0 ∙ sym (ap (λ (q : Option DataNodeId). deposed c.args.node.0 (view_primary q) (view_in_sync c.args.s)) c.in-Some.is ∙ rw (ne_eqb _ _ c.if-old-node.false)), c.synced_removed.ensures.1)
