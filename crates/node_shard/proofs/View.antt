-- The test of a lent shard is the definition's test of what it is read as, once its counts are those of its tables: the two agree on every
-- shard whose counts its arrays can hold. Assumes nothing.
use mathlib.Core.Path.{◌≡◌}
use mathlib.Core.Bool.{true}
use Prim.Native.Nat.{◌≤◌}
use native.Mathlib.Omega.{arith}
use lib.Dec.{leb}
use lib.ListN.{length, take, length-take}
use borrow.Author.Tests.{leb-true, le-leb}
use Rattle.spec.specs.Lists.{◌and◌, every, rising}
use Rattle.spec.specs.Limits.{max_replicas, max_entries, max_workers}
use Rattle.spec.specs.Keys.{Key}
use Rattle.spec.specs.Log.{Log, Vectors}
use Rattle.spec.specs.Map.WellFormed.{name_fits}
use Rattle.spec.specs.Node.Shards.{row_below}
use Rattle.spec.specs.Node.WellFormed.{ack_fits, well_formed_held}
use Rattle.spec_laws.proofs.Lists.{and_true, and_left, and_right}
use Rattle.spec_laws.proofs.Node.Formed.{held-formed, formed-held}
use Rattle.node_shard.specs.declared.Held.{Held}
use Rattle.node_shard.specs.View.{view_held}
use Rattle.node_shard.specs.Formed.{formed_held}

module _ (h : Held) (k : Key) (l : Log) (v : Vectors) (log : length l ≡ h.last) where
  pub formed-view : name_fits k.collection ≡ true → formed_held h ≡ true → well_formed_held (view_held k l v h) ≡ true
  unfolding formed_held
  formed-view name e =
      let a = leb h.holders max_replicas in
      let b = leb h.last max_entries in
      let c = leb h.count max_workers in
      let f = rising row_below (take h.count h.peers) in
      let g = every ack_fits (take h.count h.peers) in
      let r = and_right a (b and c and f and g) e in
      let s = and_right b (c and f and g) r in
      let t = and_right c (f and g) s in
      formed-held (view_held k l v h) (record {
        name = name;
        holders = (let p = leb-true h.holders max_replicas (and_left a (b and c and f and g) e) in let q = length-take h.holders h.replicas in omega arith);
        log = (let p = leb-true h.last max_entries (and_left b (c and f and g) r) in omega arith);
        rows = record {
          most = (let p = leb-true h.count max_workers (and_left c (f and g) s) in let q = length-take h.count h.peers in omega arith);
          rise = and_left f g t;
          acks = and_right f g t;
        };
      })

  pub view-formed : h.holders ≤ max_replicas → h.count ≤ max_workers → well_formed_held (view_held k l v h) ≡ true → formed_held h ≡ true
  unfolding formed_held
  view-formed few small e =
      let x = held-formed (view_held k l v h) e in
      let b = leb h.last max_entries in
      let c = leb h.count max_workers in
      let f = rising row_below (take h.count h.peers) in
      let g = every ack_fits (take h.count h.peers) in
      and_true (leb h.holders max_replicas) (b and c and f and g) (le-leb h.holders max_replicas few)
      (and_true b (c and f and g) (le-leb h.last max_entries (let p = x.log in omega arith))
      (and_true c (f and g) (le-leb h.count max_workers small) (and_true f g x.rows.rise x.rows.acks)))
