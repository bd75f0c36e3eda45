use native.Mathlib.Omega.{arith}
use Rattle.test_map.proofs.show.Goals as goal

pub get8-requires : goal.get8-requires
get8-requires c = let l = c.requires.long in omega arith

pub nodes-requires : goal.nodes-requires
nodes-requires c = c.requires

pub collections-requires : goal.collections-requires
collections-requires c = c.requires

pub shards-requires : goal.shards-requires
shards-requires c = c.requires

pub sessions-requires : goal.sessions-requires
sessions-requires c = c.requires
