use Rattle.std.proofs.Common.{rules}
use native.Mathlib.Omega.{arith}
use Rattle.image_map_put.proofs.Whole.{as_counted}
use Rattle.image_map_put.proofs.put_tidied.Goals as goal

pub get8-nodes-requires : goal.get8-nodes-requires
get8-nodes-requires c = let k = c.requires.long in omega arith

pub get8-collections-requires : goal.get8-collections-requires
get8-collections-requires c = let k = c.requires.long in omega arith

pub get8-shards-requires : goal.get8-shards-requires
get8-shards-requires c = let k = c.requires.long in omega arith

pub get8-sessions-requires : goal.get8-sessions-requires
get8-sessions-requires c = let k = c.requires.long in omega arith

pub nodes_tidied-requires : goal.nodes_tidied-requires
nodes_tidied-requires c =
    let k = c.requires.long in let f = c.requires.nodes in let e = c.get8-nodes.ensures in (omega arith, omega arith)

pub collections_tidied-requires : goal.collections_tidied-requires
collections_tidied-requires c =
    let k = c.requires.long in let l2 = c.nodes_tidied.auto.out in let f = c.requires.collections in let e = c.get8-collections.ensures in (omega arith, omega arith)

pub shards_tidied-requires : goal.shards_tidied-requires
shards_tidied-requires c =
    let k = c.requires.long in let l2 = c.nodes_tidied.auto.out in let l3 = c.collections_tidied.auto.out in let f = c.requires.shards in let e = c.get8-shards.ensures in (omega arith, omega arith)

pub sessions_tidied-requires : goal.sessions_tidied-requires
sessions_tidied-requires c =
    let k = c.requires.long in let l2 = c.nodes_tidied.auto.out in let l3 = c.collections_tidied.auto.out in let l4 = c.shards_tidied.auto.out in let f = c.requires.sessions in let e = c.get8-sessions.ensures in (omega arith, omega arith)

pub returns : goal.returns
returns c =
    as_counted c.args.out.now (c.requires) (λ i. search rules) _ _ _ _ _ _ _ _ c.get8-nodes.ensures c.get8-collections.ensures c.get8-shards.ensures c.get8-sessions.ensures c.nodes_tidied.ensures c.collections_tidied.ensures c.shards_tidied.ensures c.sessions_tidied.ensures.0
