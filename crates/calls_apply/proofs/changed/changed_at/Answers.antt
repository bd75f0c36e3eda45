use borrow.Author.Rules.{rules}
use native.Mathlib.Omega.{arith}
use mathlib.Core.Path.{sym, ◌∙◌, ap, subst}
use Rattle.spec.specs.Map.Change.{changed}
use Rattle.map_tables.specs.View.{view_shard, change_of}
use Rattle.map_tables.specs.declared.ShardRow.{ShardRow}
use Rattle.map_shard.specs.Taken.{Takes}
use Rattle.calls_apply.proofs.changed.changed_at.Goals as goal

pub overflow_mul-hit : goal.overflow_mul-hit
overflow_mul-hit c = let i = c.requires.1 in search rules

pub overflow_add-hit : goal.overflow_add-hit
overflow_add-hit c = let i = c.requires.1 in search rules

pub shard_at-row-requires : goal.shard_at-row-requires
shard_at-row-requires c = let l = c.requires.0.long in let i = c.requires.1 in omega arith

pub changed_row-requires : goal.changed_row-requires
changed_row-requires c = subst (λ (x : ShardRow). Takes x c.args.c) (sym c.shard_at-row.ensures) c.requires.2

pub returns : goal.returns
returns c =
    (c.changed_row.ensures.0 ∙ ap (λ (x : ShardRow). changed (view_shard x) (change_of c.args.c)) c.shard_at-row.ensures, c.changed_row.ensures.1)
