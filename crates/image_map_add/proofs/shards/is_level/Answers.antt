use native.Mathlib.Omega.{arith}
use mathlib.Core.Path.{◌∙◌}
use Prim.Native.Nat.{◌+◌, ◌*◌}
use mathlib.Core.Bool.{true, false}
use Rattle.spec.specs.Keys.{key_below}
use Rattle.map_tables.specs.Names.{view_key}
use Rattle.map_tables.specs.View.{view_shard}
use Rattle.image_map_row.specs.Rows.{shard_at}
use Rattle.image_map_edit.proofs.Tables.{level_past, level-is}
use Rattle.image_map_add.proofs.ShardLaws.{key_above}
use Rattle.image_map_add.proofs.shards.is_level.Goals as goal

pub returns-then-count-place : goal.returns-then-count-place
returns-then-count-place c =
    level_past c.args.place c.args.count (key_below (view_key c.args.key) (view_shard (shard_at c.args.s.now (4008 + 272 * c.args.place))).key) c.if-count-place.true

pub overflow_mul-place : goal.overflow_mul-place
overflow_mul-place c = let b = c.requires.1 in let h = c.if-count-place.false in omega arith

pub overflow_add-place : goal.overflow_add-place
overflow_add-place c = let b = c.requires.1 in let h = c.if-count-place.false in omega arith

pub key_at-own-requires : goal.key_at-own-requires
key_at-own-requires c = let a = c.requires.0 in let b = c.requires.1 in let h = c.if-count-place.false in omega arith

pub returns-then-key_below : goal.returns-then-key_below
returns-then-key_below c =
    level-is c.args.place c.args.count (key_below (view_key c.args.key) (view_shard (shard_at c.args.s.now (4008 + 272 * c.args.place))).key) c.if-count-place.false true (key_above c.args.s.now (4008 + 272 * c.args.place) c.args.key _ c.key_at-own.ensures _ c.key_below.ensures ∙ c.if-key_below.true)

pub returns : goal.returns
returns c =
    level-is c.args.place c.args.count (key_below (view_key c.args.key) (view_shard (shard_at c.args.s.now (4008 + 272 * c.args.place))).key) c.if-count-place.false false (key_above c.args.s.now (4008 + 272 * c.args.place) c.args.key _ c.key_at-own.ensures _ c.key_below.ensures ∙ c.if-key_below.false)
