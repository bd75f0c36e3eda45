use native.Mathlib.Omega.{arith}
use mathlib.Core.Path.{◌≡◌, ◌∙◌, ap}
use mathlib.Core.List.{List}
use Prim.Native.Nat.{◌+◌, ◌*◌}
use lib.Seq.{sets}
use Rattle.spec.specs.Layout.Format.{concat_map}
use Rattle.map_tables.specs.View.{view_shard}
use Rattle.map_tables.specs.declared.ShardRow.{ShardRow}
use Rattle.image_map_row.specs.Rows.{shard_at, shard_bytes}
use Rattle.image_map_form.specs.Canon.{image_shard}
use Rattle.image_map.specs.Image.{no_shard}
use Rattle.image_map_put.proofs.Tidy.{done-start, done-step, done_end, Tidy, tidy_long, tidy_row, tidy_all}
use Rattle.image_map_put.proofs.Whole.{shard-same}
use Rattle.image_move.proofs.Bytes.{past}
use Rattle.image_map_put.proofs.shards_tidied.Goals as goal

pub loop-i-init : goal.loop-i-init
loop-i-init c =
    (done-start shard_bytes 272 4008 no_shard c.args.out.now (Tidy image_shard view_shard c.args.count (shard_at c.args.out.now) 272 4008 no_shard), omega arith, c.requires.1, c.requires.0)

pub shard_tidied-requires : goal.shard_tidied-requires
shard_tidied-requires c =
    let k = c.loop-i.invariant.0.0 in let few = c.loop-i.invariant.2 in let room = c.loop-i.invariant.3 in let lt = c.loop-i-test.true in omega arith

pub loop-i-preserved : goal.loop-i-preserved
loop-i-preserved c =
    let lt = c.loop-i-test.true in let few = c.loop-i.invariant.2 in let room = c.loop-i.invariant.3 in let k = tidy_long image_shard view_shard c.args.count (shard_at c.args.out.now) 272 4008 no_shard in
    (done-step shard_bytes 272 4008 no_shard c.args.out.now (Tidy image_shard view_shard c.args.count (shard_at c.args.out.now) 272 4008 no_shard) c.loop-i.out _ c.loop-i.i (omega arith) (omega arith) (omega arith) c.loop-i.invariant.0 c.shard_tidied.auto.out _ (ap (λ (x : ShardRow). image_shard (view_shard x)) (shard-same c.loop-i.out c.args.out.now (4008 + 272 * c.loop-i.i) (4008 + 272 * c.loop-i.i) (past c.loop-i.out c.args.out.now (4008 + 272 * c.loop-i.i) 272 c.loop-i.invariant.0.2)) ∙ tidy_row image_shard view_shard c.args.count (shard_at c.args.out.now) 272 4008 no_shard c.loop-i.i lt) c.shard_tidied.ensures, omega arith, few, room)

pub shape_of-out : goal.shape_of-out
shape_of-out c = c.loop-i.invariant.0.0

pub returns : goal.returns
returns c =
    let k = c.loop-i.invariant.1 in let z = c.loop-i-test.false in let n = tidy_long image_shard view_shard c.args.count (shard_at c.args.out.now) 272 4008 no_shard in let q : c.loop-i.i ≡ c.args.count = omega arith in
    (done_end shard_bytes 272 4008 no_shard c.args.out.now (Tidy image_shard view_shard c.args.count (shard_at c.args.out.now) 272 4008 no_shard) c.loop-i.out c.loop-i.i (omega arith) c.loop-i.invariant.0 ∙ ap (λ (x : List ShardRow). sets c.args.out.now 4008 (concat_map shard_bytes x)) (tidy_all image_shard view_shard c.args.count (shard_at c.args.out.now) 272 4008 no_shard), rw q at c.loop-i.invariant.0.2)
