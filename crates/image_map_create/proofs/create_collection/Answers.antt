use native.Mathlib.Omega.{arith}
use Rattle.map_tables.specs.Names.{view_name}
use Rattle.map_tables.specs.View.{view_placement, view_spec}
use Rattle.image_map_create.proofs.Created.{room-left, not_there, few-between, shards-fit, both_created}
use Rattle.image_map_create.proofs.create_collection.Goals as goal

pub collection_put-requires : goal.collection_put-requires
collection_put-requires c =
    (c.requires.0, room-left c.args.map.now c.requires.0 (view_name c.args.name) (view_spec c.args.spec) (view_placement c.args.p) c.requires.1, not_there c.args.map.now c.requires.0 (view_name c.args.name) (view_spec c.args.spec) (view_placement c.args.p) c.requires.1)

pub shards_put-requires : goal.shards_put-requires
shards_put-requires c =
    (few-between c.args.map.now c.requires.0 (view_name c.args.name) (view_spec c.args.spec) (view_placement c.args.p) c.requires.1 _ c.collection_put.ensures, c.requires.2, shards-fit c.args.map.now c.requires.0 (view_name c.args.name) (view_spec c.args.spec) (view_placement c.args.p) c.requires.1 _ c.collection_put.ensures)

pub shape_of-map : goal.shape_of-map
shape_of-map c = let a = c.collection_put.auto.out in let b = c.shards_put.auto.out in omega arith

pub returns : goal.returns
returns c =
    both_created c.args.map.now c.requires.0 (view_name c.args.name) (view_spec c.args.spec) (view_placement c.args.p) c.requires.1 _ c.collection_put.ensures _ c.shards_put.ensures
