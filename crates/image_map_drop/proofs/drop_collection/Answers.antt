use native.Mathlib.Omega.{arith}
use Rattle.map_tables.specs.Names.{view_name}
use Rattle.image_map_drop.proofs.Drop.{few-between, both_dropped}
use Rattle.image_map_drop.proofs.drop_collection.Goals as goal

pub collections_without-requires : goal.collections_without-requires
collections_without-requires c = c.requires

pub shards_without-requires : goal.shards_without-requires
shards_without-requires c = few-between c.args.map.now _ c.requires (view_name c.args.name) c.collections_without.ensures

pub shape_of-map : goal.shape_of-map
shape_of-map c = let a = c.collections_without.auto.out in let b = c.shards_without.auto.out in omega arith

pub returns : goal.returns
returns c =
    both_dropped c.args.map.now _ c.requires (view_name c.args.name) c.collections_without.ensures _ c.shards_without.ensures
