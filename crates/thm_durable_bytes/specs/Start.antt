-- How a host begins a run, by the contracts of the entry points that it calls: the map's image is what `catalogue_apply` left of Register and
-- Create, and every holder of its shard was made by `catalogue_fresh_node` and shown that map; nothing else has happened. Definitions only.
use Rattle.std.specs.Prelude.{ℕ, ◌≡◌, true, false, List, []}
use Rattle.std.proofs.Math.Option.{some}
use Rattle.spec.specs.Lists.{nth}
use Rattle.spec.specs.Map.Tables.{ShardInfo}
use Rattle.spec.specs.Map.Change.{holds}
use Rattle.spec.specs.Layout.Writable.{U64}
use Rattle.spec.specs.declared.Replica.{Replica}
use Rattle.spec_run.specs.Fresh.{Created}
use Rattle.map_tables.specs.View.{view_map}
use Rattle.map_check.specs.Lent.{well_formed_lent}
use Rattle.image_map.specs.Image.{map_at, map_lent}
use Rattle.calls_header.specs.Fresh.{Freshens}
use Rattle.calls_header.specs.Shows.{Shows}
use Rattle.thm_durable_bytes.specs.Cluster.{Cluster}

-- ---- the map

-- an image that lends a well-formed map without shards: as `catalogue_empty_map` makes it, and Register leaves it
pub record Shardless (m : List ℕ) : Type 0 where
  pub lent : map_lent m ≡ true
  pub tested : well_formed_lent (map_at m) ≡ true
  pub shards : (view_map (map_at m)).shards ≡ []

-- ---- the nodes

-- a header that `catalogue_fresh_node` made of some buffer: it answered 0
pub record New (h : List ℕ) (me incarnation : ℕ) : Type 0 where
  pub buffer : List ℕ
  pub made : Freshens buffer h me incarnation 0

-- a holder's header after `catalogue_show_map` on a new one: it answered 0, with any outputs
pub record ShownFirst (d : Cluster) (me incarnation : ℕ) : Type 0 where
  pub header : List ℕ
  pub new : New header me incarnation
  pub fresh : ℕ
  pub starts : List ℕ
  pub started : List ℕ
  pub answer : List ℕ
  pub answered : List ℕ
  pub shown : Shows header (d.headers me) d.map starts started answer answered fresh 0

-- ---- all of it

-- the map's image is well formed, and is read as a map with one shard, as Create leaves it. Who is no holder was made under some id that is
-- no holder's: an id has eight bytes, so that it need not be the number under which the run knows the node. Stores are free
pub record Begun (d : Cluster) : Type 0 where
  pub shard : ShardInfo
  pub tested : well_formed_lent (map_at d.map) ≡ true
  pub created : Created (view_map (map_at d.map)) shard
  pub incarnation : ℕ → ℕ
  pub listed : (r : Replica) (place : ℕ) → nth shard.replicas place ≡ some r → incarnation r.node.0 ≡ r.incarnation
  pub holders : (n : ℕ) → holds n shard.replicas ≡ true → ShownFirst d n (incarnation n)
  pub id : ℕ → ℕ
  pub apart : (n : ℕ) → holds n shard.replicas ≡ false → holds (id n) shard.replicas ≡ false
  pub others : (n : ℕ) → holds n shard.replicas ≡ false → New (d.headers n) (id n) (incarnation n)
  pub clients : (n : ℕ) → U64 (d.clients n)
  pub requests : (a b : ℕ) → d.requests a b ≡ []
  pub replies : d.replies ≡ []
  pub offers : d.offers ≡ []
  pub outcomes : d.outcomes ≡ []
  pub accepted : d.accepted ≡ []
  pub acknowledged : d.acknowledged ≡ []
