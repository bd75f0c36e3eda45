use native.Mathlib.Omega.{arith}
use mathlib.Core.Path.{sym}
use Rattle.map_tables.specs.Names.{view_name}
use Rattle.image_map_count.proofs.TestLaws.{collections-few, name-taken}
use Rattle.image_map_count.proofs.tests.is_taken.Goals as goal

pub get8-count-requires : goal.get8-count-requires
get8-count-requires c = let l = c.requires.long in omega arith

pub collection_place-at-requires : goal.collection_place-at-requires
collection_place-at-requires c =
    let e = c.get8-count.ensures in (c.requires.long, omega (arith, collections-few c.args.map.now c.requires), sym e)

pub returns : goal.returns
returns c =
    name-taken c.args.map.now c.requires (view_name c.args.name) _ c.collection_place-at.result c.get8-count.ensures c.collection_place-at.ensures
