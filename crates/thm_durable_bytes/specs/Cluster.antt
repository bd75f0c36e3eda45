-- The state of a run as a host of the entry points holds it: the image of the shard map, every node's header and stores as byte images, and
-- what is under way, as in crate `spec_run`. Definitions only.
use Rattle.std.specs.Prelude.{ℕ, List}
use Rattle.spec.specs.Layout.Format.{Bytes}
use Rattle.spec_run.specs.State.{Request, Reply, Offer, Outcome, Write, State, at}
use Rattle.map_tables.specs.View.{view_map}
use Rattle.image_map.specs.Image.{map_at}
use Rattle.image_node.specs.State.{state_at}

-- the images by node, of any length; the rest is as in `spec_run`
pub record Cluster : Type 0 where
  pub map : List ℕ
  pub headers : ℕ → List ℕ
  pub stores : ℕ → List ℕ
  pub clients : ℕ → ℕ
  pub requests : ℕ → ℕ → List Request
  pub replies : List Reply
  pub offers : List Offer
  pub outcomes : List Outcome
  pub accepted : List Write
  pub acknowledged : List Write

-- ---- how it is read

-- the state of `spec_run` that the images are read as, by the readers that the contracts cite
unfoldable pub seen : Cluster → State
seen d = record {
  map = view_map (map_at d.map);
  nodes = λ n. state_at (d.headers n) (d.stores n);
  clients = d.clients;
  requests = d.requests;
  replies = d.replies;
  offers = d.offers;
  outcomes = d.outcomes;
  accepted = d.accepted;
  acknowledged = d.acknowledged;
}

-- memory holds bytes, numbers below 256: all that is asked of a node's images, and of the map's not even that
pub record InMemory (d : Cluster) : Type 0 where
  pub headers : (n : ℕ) → Bytes (d.headers n)
  pub stores : (n : ℕ) → Bytes (d.stores n)

-- ---- what a call leaves: 'each call gets what the last one on that map or node left, and nobody else writes it'

-- another image of the map
unfoldable pub with_map : Cluster → List ℕ → Cluster
with_map d m = record {
  map = m;
  headers = d.headers;
  stores = d.stores;
  clients = d.clients;
  requests = d.requests;
  replies = d.replies;
  offers = d.offers;
  outcomes = d.outcomes;
  accepted = d.accepted;
  acknowledged = d.acknowledged;
}

-- another header of one node
unfoldable pub with_header : Cluster → (node : ℕ) → List ℕ → Cluster
with_header d n h = record {
  map = d.map;
  headers = at d.headers n h;
  stores = d.stores;
  clients = d.clients;
  requests = d.requests;
  replies = d.replies;
  offers = d.offers;
  outcomes = d.outcomes;
  accepted = d.accepted;
  acknowledged = d.acknowledged;
}

-- another header and other stores of one node
unfoldable pub with_node : Cluster → (node : ℕ) → (header stores : List ℕ) → Cluster
with_node d n h s = record {
  map = d.map;
  headers = at d.headers n h;
  stores = at d.stores n s;
  clients = d.clients;
  requests = d.requests;
  replies = d.replies;
  offers = d.offers;
  outcomes = d.outcomes;
  accepted = d.accepted;
  acknowledged = d.acknowledged;
}

-- what the host does beside the calls, in the words of `spec_run`: it changes nothing but what is under way and the lists of writes
unfoldable pub host : Cluster → (State → State) → Cluster
host d deed = let s = deed (seen d) in record {
  map = d.map;
  headers = d.headers;
  stores = d.stores;
  clients = d.clients;
  requests = s.requests;
  replies = s.replies;
  offers = s.offers;
  outcomes = s.outcomes;
  accepted = s.accepted;
  acknowledged = s.acknowledged;
}
