use mathlib.Core.Path.{sym, ◌∙◌}
use Rattle.spec.specs.Map.Change.{decide_change}
use borrow.Author.Tests.{eq-eqb, ne_eqb}
use Rattle.map_shard.proofs.row_change.promote_answer.Goals as goal

pub returns-then-epoch : goal.returns-then-epoch
unfolding decide_change
returns-then-epoch c =
    rw (sym c.has_synced.ensures ∙ c.if-has_synced.true, eq-eqb c.args.s.epoch.0 18446744073709551615 c.if-epoch.true) c.refused.ensures

pub returns-then-has_synced : goal.returns-then-has_synced
unfolding decide_change
returns-then-has_synced c =
    rw (sym c.has_synced.ensures ∙ c.if-has_synced.true, ne_eqb c.args.s.epoch.0 18446744073709551615 c.if-epoch.false) c.applied.ensures

pub returns : goal.returns
unfolding decide_change
returns c = rw (sym c.has_synced.ensures ∙ c.if-has_synced.false) c.rejected.ensures
