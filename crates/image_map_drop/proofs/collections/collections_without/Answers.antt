use native.Mathlib.Omega.{arith}
use Rattle.image_map_drop.proofs.Kept.{collections_become}
use Rattle.image_map_drop.proofs.collections.collections_without.Goals as goal

pub get8-count-requires : goal.get8-count-requires
get8-count-requires c = let l = c.requires.long in omega arith

pub rows_without-kept-requires : goal.rows_without-kept-requires
rows_without-kept-requires c =
    let p = c.requires in
    let l = p.long in
    let f = p.collections in
    let e = c.get8-count.ensures in (omega arith, omega arith, omega arith, l)

pub put8-requires : goal.put8-requires
put8-requires c =
    let l = c.requires.long in
    let k = c.rows_without-kept.ensures.long in omega arith

pub returns : goal.returns
returns c =
    let a = c.args in
    let n = c.get8-count in
    let k = c.rows_without-kept in
    collections_become a.out.now a.name n.result c.requires n.ensures _ k.result k.ensures _ c.put8.ensures
