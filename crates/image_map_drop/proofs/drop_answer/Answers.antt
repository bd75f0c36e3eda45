use native.Mathlib.Omega.{arith}
use mathlib.Core.Path.{sym, ◌∙◌, ap}
use Rattle.spec.specs.Refusals.{no_collection}
use Rattle.spec.specs.Map.Change.{accepts, rejects}
use mathlib.Core.Bool.{Bool, cond}
use Rattle.map_tables.specs.Names.{view_name}
use Rattle.image_map_drop.proofs.Drop.{has_it, has_not}
use Rattle.image_map_drop.proofs.drop_answer.Goals as goal

pub get8-count-requires : goal.get8-count-requires
get8-count-requires c = let l = c.requires.long in omega arith

pub collection_place-requires : goal.collection_place-requires
collection_place-requires c =
    let f = c.requires.collections in let e = c.get8-count.ensures in (c.requires.long, omega arith, sym e)

pub returns-then-collection_place-count : goal.returns-then-collection_place-count
returns-then-collection_place-count c =
    c.applied.ensures ∙ sym (ap (λ (b : Bool). cond b accepts (rejects (no_collection (view_name c.args.key.collection)))) (has_it c.args.map.now c.requires (view_name c.args.key.collection) _ _ c.get8-count.ensures c.collection_place.ensures c.if-collection_place-count.true))

pub returns : goal.returns
returns c =
    c.rejected.ensures ∙ sym (ap (λ (b : Bool). cond b accepts (rejects (no_collection (view_name c.args.key.collection)))) (has_not c.args.map.now c.requires (view_name c.args.key.collection) _ _ c.get8-count.ensures c.collection_place.ensures c.if-collection_place-count.false))
