-- Paper 01, 'Rules of a run': the state of a run. It is the map, every node's state with its log and vectors, what is under way
-- (messages, proposals, outcomes), and the acknowledged writes. Definitions only.
use Rattle.std.specs.Prelude.{ℕ, Bool, cond, List, eqb}
use Rattle.spec.specs.Keys.{Key}
use Rattle.spec.specs.Log.{Op}
use Rattle.spec.specs.Map.Tables.{Map}
use Rattle.spec.specs.Node.Held.{Node}
use Rattle.spec.specs.Node.Ack.{Sent, Proposal}

-- 'Messages': a request that a worker's step put under way: what it asks, for which shard and epoch, and its bytes
pub record Request : Type 0 where
  pub sent : Sent
  pub key : Key
  pub epoch : ℕ
  pub bytes : List ℕ

-- 'Messages': an answer on its way back from the peer, with the step it answers
pub record Reply : Type 0 where
  pub node : ℕ
  pub peer : ℕ
  pub sent : Sent
  pub key : Key
  pub epoch : ℕ
  pub bytes : List ℕ

-- 'Commands': a Shrink or an Expand that a node proposed; `awaited` until its timeout
pub record Offer : Type 0 where
  pub node : ℕ
  pub key : Key
  pub peer : ℕ
  pub epoch : ℕ
  pub what : Proposal
  pub awaited : Bool

-- 'Commands': the outcome of a proposal on its way to the node; a timeout is one that was not applied
pub record Outcome : Type 0 where
  pub node : ℕ
  pub key : Key
  pub peer : ℕ
  pub epoch : ℕ
  pub what : Proposal
  pub applied : Bool

-- 'At a node': a Write that a node accepted, with the offset it was answered and its operation
pub record Write : Type 0 where
  pub node : ℕ
  pub key : Key
  pub epoch : ℕ
  pub offset : ℕ
  pub op : Op

-- 'Rules of a run': `clients` gives each node's one client number, and never changes. Requests are under way by sender and receiver,
-- oldest first
pub record State : Type 0 where
  pub map : Map
  pub nodes : ℕ → Node
  pub clients : ℕ → ℕ
  pub requests : ℕ → ℕ → List Request
  pub replies : List Reply
  pub offers : List Offer
  pub outcomes : List Outcome
  pub accepted : List Write
  pub acknowledged : List Write

-- a finite map with one place changed
unfoldable pub at {ℓ} : {A : Type ℓ} → (ℕ → A) → ℕ → A → ℕ → A
at f n x m = cond (eqb m n) x (f m)

-- ---- one part replaced: 'each call gets what the last one on that map or node left, and nobody else writes it'

-- the run with another map
unfoldable pub set_map : State → Map → State
set_map s m = record {
  map = m;
  nodes = s.nodes;
  clients = s.clients;
  requests = s.requests;
  replies = s.replies;
  offers = s.offers;
  outcomes = s.outcomes;
  accepted = s.accepted;
  acknowledged = s.acknowledged;
}

-- the run with another state of one node
unfoldable pub set_node : State → ℕ → Node → State
set_node s n x = record {
  map = s.map;
  nodes = at s.nodes n x;
  clients = s.clients;
  requests = s.requests;
  replies = s.replies;
  offers = s.offers;
  outcomes = s.outcomes;
  accepted = s.accepted;
  acknowledged = s.acknowledged;
}

-- the run with other requests between two nodes
unfoldable pub set_requests : State → (from to : ℕ) → List Request → State
set_requests s from to l = record {
  map = s.map;
  nodes = s.nodes;
  clients = s.clients;
  requests = at s.requests from (at (s.requests from) to l);
  replies = s.replies;
  offers = s.offers;
  outcomes = s.outcomes;
  accepted = s.accepted;
  acknowledged = s.acknowledged;
}

-- the run with other replies under way
unfoldable pub set_replies : State → List Reply → State
set_replies s l = record {
  map = s.map;
  nodes = s.nodes;
  clients = s.clients;
  requests = s.requests;
  replies = l;
  offers = s.offers;
  outcomes = s.outcomes;
  accepted = s.accepted;
  acknowledged = s.acknowledged;
}

-- the run with other proposals under way
unfoldable pub set_offers : State → List Offer → State
set_offers s l = record {
  map = s.map;
  nodes = s.nodes;
  clients = s.clients;
  requests = s.requests;
  replies = s.replies;
  offers = l;
  outcomes = s.outcomes;
  accepted = s.accepted;
  acknowledged = s.acknowledged;
}

-- the run with other outcomes under way
unfoldable pub set_outcomes : State → List Outcome → State
set_outcomes s l = record {
  map = s.map;
  nodes = s.nodes;
  clients = s.clients;
  requests = s.requests;
  replies = s.replies;
  offers = s.offers;
  outcomes = l;
  accepted = s.accepted;
  acknowledged = s.acknowledged;
}

-- the run with other accepted and acknowledged writes
unfoldable pub set_writes : State → (accepted acknowledged : List Write) → State
set_writes s a d = record {
  map = s.map;
  nodes = s.nodes;
  clients = s.clients;
  requests = s.requests;
  replies = s.replies;
  offers = s.offers;
  outcomes = s.outcomes;
  accepted = a;
  acknowledged = d;
}
