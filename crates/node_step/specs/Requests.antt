-- What the request of a worker's step promises at a node: the answer, with paper 01's number for each refusal, and the lent output are those
-- of the definition, whatever the other stores hold. Node and store are not changed. Definitions only.
use Rattle.std.specs.Prelude.{ℕ, ◌≡◌, List, length}
use Rattle.spec.specs.Keys.{Key}
use Rattle.spec.specs.Node.Calls as calls
use Rattle.spec.specs.declared.Metric.{Metric}
use Rattle.node_header.specs.declared.Node.{Node}
use Rattle.node_header.specs.View.{Stores, view_node}
use Rattle.node_send.specs.declared.Request.{Request}
use Rattle.node_send.specs.Requested.{answer_of, left_of}
use Rattle.node_lent.specs.Lend.{LentStore, lent_for, slot_of, Lends}

-- a call with the columns a, where the stores s hold them in the slot of the shard k, and an output of the bytes `before`, which leaves
-- `after`: a request from its start, the rest as it was, or all of it as it was where nothing is sent
pub record Requests (n : Node) (a : LentStore) (k : Key) (epoch peer : ℕ) (metric : Metric) (before after : List ℕ) (r : Request) : Type 0 where
  pub answer : (s : Stores) → Lends s (slot_of n k) a
      → r ≡ answer_of (calls.request_with (lent_for s n a) (view_node s n) (length before) k epoch peer metric)
  pub bytes : (s : Stores) → Lends s (slot_of n k) a
      → after ≡ left_of (calls.request_with (lent_for s n a) (view_node s n) (length before) k epoch peer metric) before
