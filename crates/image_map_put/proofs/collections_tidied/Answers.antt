use native.Mathlib.Omega.{arith}
use mathlib.Core.Path.{◌≡◌, ◌∙◌, ap}
use mathlib.Core.List.{List}
use Prim.Native.Nat.{◌+◌, ◌*◌}
use lib.Seq.{sets}
use Rattle.spec.specs.Layout.Format.{concat_map}
use Rattle.map_tables.specs.View.{view_collection}
use Rattle.map_tables.specs.declared.CollectionRow.{CollectionRow}
use Rattle.image_map_row.specs.Rows.{collection_at, collection_bytes}
use Rattle.image_map_form.specs.Canon.{image_collection}
use Rattle.image_map.specs.Image.{no_collection}
use Rattle.image_map_put.proofs.Tidy.{done-start, done-step, done_end, Tidy, tidy_long, tidy_row, tidy_all}
use Rattle.image_map_put.proofs.Whole.{collection-same}
use Rattle.image_move.proofs.Bytes.{past}
use Rattle.image_map_put.proofs.collections_tidied.Goals as goal

pub loop-i-init : goal.loop-i-init
loop-i-init c =
    (done-start collection_bytes 56 3112 no_collection c.args.out.now (Tidy image_collection view_collection c.args.count (collection_at c.args.out.now) 56 3112 no_collection), omega arith, c.requires.1, c.requires.0)

pub collection_tidied-requires : goal.collection_tidied-requires
collection_tidied-requires c =
    let k = c.loop-i.invariant.0.0 in let few = c.loop-i.invariant.2 in let room = c.loop-i.invariant.3 in let lt = c.loop-i-test.true in omega arith

pub loop-i-preserved : goal.loop-i-preserved
loop-i-preserved c =
    let lt = c.loop-i-test.true in let few = c.loop-i.invariant.2 in let room = c.loop-i.invariant.3 in let k = tidy_long image_collection view_collection c.args.count (collection_at c.args.out.now) 56 3112 no_collection in
    (done-step collection_bytes 56 3112 no_collection c.args.out.now (Tidy image_collection view_collection c.args.count (collection_at c.args.out.now) 56 3112 no_collection) c.loop-i.out _ c.loop-i.i (omega arith) (omega arith) (omega arith) c.loop-i.invariant.0 c.collection_tidied.auto.out _ (ap (λ (x : CollectionRow). image_collection (view_collection x)) (collection-same c.loop-i.out c.args.out.now (3112 + 56 * c.loop-i.i) (3112 + 56 * c.loop-i.i) (past c.loop-i.out c.args.out.now (3112 + 56 * c.loop-i.i) 56 c.loop-i.invariant.0.2)) ∙ tidy_row image_collection view_collection c.args.count (collection_at c.args.out.now) 56 3112 no_collection c.loop-i.i lt) c.collection_tidied.ensures, omega arith, few, room)

pub shape_of-out : goal.shape_of-out
shape_of-out c = c.loop-i.invariant.0.0

pub returns : goal.returns
returns c =
    let k = c.loop-i.invariant.1 in let z = c.loop-i-test.false in let n = tidy_long image_collection view_collection c.args.count (collection_at c.args.out.now) 56 3112 no_collection in let q : c.loop-i.i ≡ c.args.count = omega arith in
    (done_end collection_bytes 56 3112 no_collection c.args.out.now (Tidy image_collection view_collection c.args.count (collection_at c.args.out.now) 56 3112 no_collection) c.loop-i.out c.loop-i.i (omega arith) c.loop-i.invariant.0 ∙ ap (λ (x : List CollectionRow). sets c.args.out.now 3112 (concat_map collection_bytes x)) (tidy_all image_collection view_collection c.args.count (collection_at c.args.out.now) 56 3112 no_collection), rw q at c.loop-i.invariant.0.2)
