use native.Mathlib.Omega.{arith}
use mathlib.Core.Path.{sym, ◌∙◌, ap}
use Rattle.map_place.specs.Read.{best_of}
use Rattle.map_place.specs.declared.Load.{Load}
use Rattle.std.specs.Prelude.{Option}
use Rattle.spec.specs.Map.Place.{replaced_with}
use Rattle.image_map_loads.proofs.Rows.{held-few}
use Rattle.calls_place.proofs.Places.{absent, present}
use Rattle.calls_place.proofs.replacement_of.Goals as goal

pub get8-count-requires : goal.get8-count-requires
get8-count-requires c = let l = c.requires.0.long in omega arith

pub shard_place-at-requires : goal.shard_place-at-requires
shard_place-at-requires c = let e = c.get8-count.ensures in (c.requires.0.long, omega (arith, c.requires.0.shards.count), sym e)

pub returns-then-count-at : goal.returns-then-count-at
returns-then-count-at c =
    let e = c.get8-count.ensures in let t = c.if-count-at.true in absent c.args.map.now c.args.key c.requires.1 c.requires.0 c.shard_place-at.result c.shard_place-at.ensures (omega arith)

pub overflow_mul-row : goal.overflow_mul-row
overflow_mul-row c =
    let t = c.if-count-at.false in let e = c.get8-count.ensures in omega (arith, c.requires.0.shards.count)

pub overflow_add-row : goal.overflow_add-row
overflow_add-row c =
    let t = c.if-count-at.false in let e = c.get8-count.ensures in omega (arith, c.requires.0.shards.count)

pub overflow_add-row-2 : goal.overflow_add-row-2
overflow_add-row-2 c =
    let t = c.if-count-at.false in let e = c.get8-count.ensures in omega (arith, c.requires.0.shards.count)

pub get8-held-requires : goal.get8-held-requires
get8-held-requires c =
    let t = c.if-count-at.false in let e = c.get8-count.ensures in let l = c.requires.0.long in omega (arith, c.requires.0.shards.count)

pub overflow_add-row-3 : goal.overflow_add-row-3
overflow_add-row-3 c =
    let t = c.if-count-at.false in let e = c.get8-count.ensures in omega (arith, c.requires.0.shards.count)

pub lightest_beside-best-requires : goal.lightest_beside-best-requires
lightest_beside-best-requires c =
    let t = c.if-count-at.false in let e = c.get8-count.ensures in let l = c.requires.0.long in let k = c.requires.0.shards.count in let q = c.get8-held.ensures in
    (c.requires.0, omega arith, omega (arith, held-few c.args.map.now c.requires.0.shards c.shard_place-at.result (omega arith)))

pub returns-in_default : goal.returns-in_default
returns-in_default c =
    let t = c.if-count-at.false in let e = c.get8-count.ensures in
    ap (λ (b : Option Load). replaced_with (best_of b)) (sym c.in_default.is) ∙ present c.args.map.now c.args.key c.requires.1 c.requires.0 c.shard_place-at.result c.shard_place-at.ensures (omega arith) _ _ c.get8-held.ensures c.lightest_beside-best.ensures

pub returns : goal.returns
returns c =
    let t = c.if-count-at.false in let e = c.get8-count.ensures in
    ap (λ (b : Option Load). replaced_with (best_of b)) (sym c.in-Some.is) ∙ present c.args.map.now c.args.key c.requires.1 c.requires.0 c.shard_place-at.result c.shard_place-at.ensures (omega arith) _ _ c.get8-held.ensures c.lightest_beside-best.ensures
