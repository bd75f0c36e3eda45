-- The state of a run as the engine's host holds it: the shard map and every node's header and stores, which the calls are lent and give
-- back, and what is under way, as in crate `spec_run`. Definitions only.
use Rattle.std.specs.Prelude.{ℕ, refl, List}
use Rattle.spec_run.specs.State.{Request, Reply, Offer, Outcome, Write, State, at}
use Rattle.map_tables.specs.declared.ShardMap.{ShardMap}
use Rattle.map_tables.specs.View.{view_map}
use Rattle.log_store.specs.View.{log_of}
use Rattle.log_store.specs.Table.{zipped, rows_of, vectors_of}
use Rattle.log_store.proofs.Columns.{log-length}
use Rattle.node_header.specs.declared.Node.{Node}
use Rattle.node_header.specs.View.{Stores, view_node}
use Rattle.node_lent.specs.Lend.{LentStore}

-- `lent_stores` are the stores, by node and slot: the columns of a log, its floats and its table of vectors. Where all eight have a shard, the
-- slot of one more is the ninth: a store that the host lends, and in which nothing is ever kept. The rest is as in `spec_run`
pub record Engine : Type 0 where
  pub map : ShardMap
  pub nodes : ℕ → Node
  pub lent_stores : (node slot : ℕ) → LentStore
  pub clients : ℕ → ℕ
  pub requests : ℕ → ℕ → List Request
  pub replies : List Reply
  pub offers : List Offer
  pub outcomes : List Outcome
  pub accepted : List Write
  pub acknowledged : List Write

-- ---- how it is read

-- what a node's stores hold, as the contracts speak of it: by slot, so many entries and rows of the columns there
unfoldable pub stores_of : (ℕ → LentStore) → Stores
unfolding zipped rows_of vectors_of
stores_of lent_stores = record {
  log = λ slot last. log_of (lent_stores slot).columns last;
  vectors = λ slot last stored. vectors_of (log_of (lent_stores slot).columns last) (rows_of (lent_stores slot).keys (lent_stores slot).places stored);
  long = λ slot last. log-length (lent_stores slot).columns last;
  bare = λ slot. refl;
}

-- the state of `spec_run` that an engine is read as, by the views that the contracts cite
unfoldable pub seen : Engine → State
seen e = record {
  map = view_map e.map;
  nodes = λ n. view_node (stores_of (e.lent_stores n)) (e.nodes n);
  clients = e.clients;
  requests = e.requests;
  replies = e.replies;
  offers = e.offers;
  outcomes = e.outcomes;
  accepted = e.accepted;
  acknowledged = e.acknowledged;
}

-- ---- what a call gives back: 'each call gets what the last one on that map or node left, and nobody else writes it'

-- the engine with another map
unfoldable pub with_map : Engine → ShardMap → Engine
with_map e m = record {
  map = m;
  nodes = e.nodes;
  lent_stores = e.lent_stores;
  clients = e.clients;
  requests = e.requests;
  replies = e.replies;
  offers = e.offers;
  outcomes = e.outcomes;
  accepted = e.accepted;
  acknowledged = e.acknowledged;
}

-- the engine with another header of one node
unfoldable pub with_node : Engine → (node : ℕ) → Node → Engine
with_node e n x = record {
  map = e.map;
  nodes = at e.nodes n x;
  lent_stores = e.lent_stores;
  clients = e.clients;
  requests = e.requests;
  replies = e.replies;
  offers = e.offers;
  outcomes = e.outcomes;
  accepted = e.accepted;
  acknowledged = e.acknowledged;
}

-- the engine with another header of one node, and other columns in the slot that was lent
unfoldable pub with_store : Engine → (node : ℕ) → Node → (slot : ℕ) → LentStore → Engine
with_store e n x slot a = record {
  map = e.map;
  nodes = at e.nodes n x;
  lent_stores = at e.lent_stores n (at (e.lent_stores n) slot a);
  clients = e.clients;
  requests = e.requests;
  replies = e.replies;
  offers = e.offers;
  outcomes = e.outcomes;
  accepted = e.accepted;
  acknowledged = e.acknowledged;
}

-- what the host does beside the calls, in the words of `spec_run`: it changes nothing but what is under way and the lists of writes
unfoldable pub host : Engine → (State → State) → Engine
host e deed = let s = deed (seen e) in record {
  map = e.map;
  nodes = e.nodes;
  lent_stores = e.lent_stores;
  clients = e.clients;
  requests = s.requests;
  replies = s.replies;
  offers = s.offers;
  outcomes = s.outcomes;
  accepted = s.accepted;
  acknowledged = s.acknowledged;
}
