-- How a host begins a run, by the contracts of the calls that it makes: the map is what Register and Create left, and every holder of its
-- shard has been shown it; nothing else has happened. Definitions only.
use Rattle.std.specs.Prelude.{ℕ, ◌≡◌, true, false, []}
use Rattle.std.proofs.Math.Option.{some}
use Rattle.spec.specs.Lists.{nth}
use Rattle.spec.specs.Map.Tables.{ShardInfo}
use Rattle.spec.specs.Map.Change.{holds}
use Rattle.spec.specs.Layout.Writable.{U64}
use Rattle.spec.specs.declared.Replica.{Replica}
use Rattle.spec_run.specs.Fresh.{Created}
use Rattle.map_tables.specs.View.{view_map}
use Rattle.map_check.specs.Lent.{well_formed_lent}
use Rattle.std.specs.Prelude.{None}
use Rattle.node_header.specs.declared.Node.{Node}
use Rattle.node_show.specs.declared.NodeShown.{NodeShown}
use Rattle.node_hear.specs.Hears.{HearsMap}
use Rattle.thm_durable.specs.Engine.{Engine}

-- a header in which nothing has happened: no shard is in use, no lease was granted, no map is known. Its array is free
pub record New (x : Node) (me under : ℕ) : Type 0 where
  pub id : x.id.0 ≡ me
  pub incarnation : x.incarnation ≡ under
  pub expiry : x.expiry ≡ None
  pub version : x.version ≡ 0
  pub count : x.count ≡ 0

-- a holder's header after it was shown the map: `node_hear::show::show`, on a new one
pub record ShownFirst (e : Engine) (me incarnation : ℕ) : Type 0 where
  pub new : Node
  pub made : New new me incarnation
  pub fresh : ℕ
  pub answer : NodeShown
  pub promised : HearsMap new e.map fresh answer
  pub node : e.nodes me ≡ answer.node

-- the map is well formed (24); what it is read as is a map with one shard, as Create leaves it. Who is no holder has
-- some id that is no holder's: ids are u64, so that it need not be the number under which the run knows the node. Stores are free
pub record Begun (e : Engine) : Type 0 where
  pub shard : ShardInfo
  pub tested : well_formed_lent e.map ≡ true
  pub created : Created (view_map e.map) shard
  pub incarnation : ℕ → ℕ
  pub listed : (r : Replica) (place : ℕ) → nth shard.replicas place ≡ some r → incarnation r.node.0 ≡ r.incarnation
  pub holders : (n : ℕ) → holds n shard.replicas ≡ true → ShownFirst e n (incarnation n)
  pub id : ℕ → ℕ
  pub apart : (n : ℕ) → holds n shard.replicas ≡ false → holds (id n) shard.replicas ≡ false
  pub others : (n : ℕ) → holds n shard.replicas ≡ false → New (e.nodes n) (id n) (incarnation n)
  pub clients : (n : ℕ) → U64 (e.clients n)
  pub requests : (a b : ℕ) → e.requests a b ≡ []
  pub replies : e.replies ≡ []
  pub offers : e.offers ≡ []
  pub outcomes : e.outcomes ≡ []
  pub accepted : e.accepted ≡ []
  pub acknowledged : e.acknowledged ≡ []
