use mathlib.Core.Path.{sym, ◌∙◌}
use Rattle.spec.specs.Map.Change.{decide_change}
use Rattle.map_shard.proofs.row_change.expand_answer.Goals as goal

pub returns-then-has_synced : goal.returns-then-has_synced
unfolding decide_change
returns-then-has_synced c =
    rw (sym c.has_holder.ensures ∙ c.if-has_holder.true, sym c.has_synced.ensures ∙ c.if-has_synced.true) c.rejected.ensures

pub returns-then-has_holder : goal.returns-then-has_holder
unfolding decide_change
returns-then-has_holder c =
    rw (sym c.has_holder.ensures ∙ c.if-has_holder.true, sym c.has_synced.ensures ∙ c.if-has_synced.false) c.applied.ensures

pub returns : goal.returns
unfolding decide_change
returns c = rw (sym c.has_holder.ensures ∙ c.if-has_holder.false) c.rejected-2.ensures
