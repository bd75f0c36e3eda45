use mathlib.Core.Path.{sym, ◌∙◌, ap}
use Rattle.spec.specs.Keys.{key_below}
use Rattle.map_tables.specs.Names.{view_key}
use Rattle.map_tables.specs.declared.ShardKey.{ShardKey}
use Rattle.image_parts.specs.Parts.{key_at}
use Rattle.image_map_check.proofs.RowLaws.{shard_wrong, shard-first, shard-after, key-under}
use Rattle.image_map_check.proofs.rows.shard_follows.Goals as goal

pub returns-then-not-shard_fits : goal.returns-then-not-shard_fits
returns-then-not-shard_fits c =
    shard_wrong c.args.s.now c.args.i c.args.before c.args.at (sym c.shard_fits.ensures ∙ c.if-not-shard_fits.true)

pub returns-then-i-eq0 : goal.returns-then-i-eq0
returns-then-i-eq0 c =
    shard-first c.args.s.now c.args.i c.args.before c.args.at (sym c.shard_fits.ensures ∙ c.if-not-shard_fits.false) c.if-i-eq0.true

pub returns : goal.returns
returns c =
    shard-after c.args.s.now c.args.i c.args.before c.args.at (sym c.shard_fits.ensures ∙ c.if-not-shard_fits.false) c.if-i-eq0.false _
    (c.key_below.ensures ∙ ap (λ (x : ShardKey). key_below (view_key x) (view_key c.key_at-b.result)) c.key_at-a.ensures ∙ ap (λ (x : ShardKey). key_below (view_key (key_at c.args.s.now c.args.before)) (view_key x)) c.key_at-b.ensures ∙ sym (key-under c.args.s.now c.args.before c.args.at))
