-- When a state of a run (State.antt of spec_run) is one of the protocol (Protocol/State.antt): part by part, each over what it reads. Bytes under
-- way are those of the protocol's requests and answers; clocks, leases, versions, sessions and waiting times are not seen. Definitions
-- only; that every event keeps it is in the files beside this one.
use Prim.Native.Nat.{ℕ, ◌≤◌}
use mathlib.Core.Path.{◌≡◌}
use mathlib.Core.Bool.{Bool, true, false, cond, not}
use mathlib.Core.Logic.{◌⊎◌}
use mathlib.Core.List.{List, [], ◌∷◌, map}
use mathlib.Core.Option.{some}
use lib.Dec.{eqb, ltb}
use lib.ListN.{length, take}
use Rattle.spec.specs.Keys.{Key}
use Rattle.spec.specs.Limits.{max_u64}
use Rattle.spec.specs.Lists.{◌and◌, any, every, find, nth, collect}
use Rattle.spec.specs.Log.{Entry, Log, End, ShardReplica, epoch_ends}
use Rattle.spec.specs.Map.Tables as tables
use Rattle.spec.specs.Map.Tables.{NodeInfo, Collection, ShardInfo}
use Rattle.spec.specs.Map.Change.{holds, in_sync}
use Rattle.spec.specs.Map.WellFormed.{well_formed_map}
use Rattle.spec.specs.Layout.Writable.{GoodKey, U64}
use Rattle.spec.specs.Layout.Message as message
use Rattle.spec.specs.Layout.Message.{decode_new_epoch, decode_copy_shard, decode_replicate, decode_reply}
use Rattle.spec.specs.Node.Held as held
use Rattle.spec.specs.Node.Held.{Held}
use Rattle.spec.specs.Node.Shards.{of_node}
use Rattle.spec.specs.Node.Shown.{listed_as, metric_of, named}
use Rattle.spec.specs.Node.Backup.{is_empty}
use Rattle.spec.specs.Node.Wire.{entry_in_domain, stored_entry, op_in_domain, stored_op}
use Rattle.spec.specs.Node.WellFormed.{well_formed_entry}
use Rattle.spec.specs.Node.Ack as ack
use Rattle.spec.specs.Node.Ack.{sent_align, sent_replicate, sent_copy, Deed, nothing, step_down, unalign, record_ack, deed_of, leaves}
use Rattle.spec.specs.declared.Metric.{Metric}
use Rattle.spec.specs.declared.Replica.{Replica}
use Rattle.spec.specs.declared.Peer.{Peer}
use Rattle.spec.specs.declared.Role as role
use Rattle.spec.specs.declared.Role.TheVariants.{Backup, Primary}
use Rattle.spec_laws.proofs.Node.Formed.{FormedNode}
use Rattle.spec_run.specs.State as run
use Rattle.spec_run.specs.Fresh.{proper_id}
use Rattle.thm_run.proofs.Protocol.Base.{All}
use Rattle.thm_run.proofs.Protocol.Sets.{member, In}
use Rattle.thm_run.proofs.Protocol.State.{Map, Lead, Role, backup, lead, Node, Request, align, send, Answer, adopts, stores, stale_align, stale_send, Reply, Proposal, Outcome, Accepted, Acknowledged, State}
use Rattle.thm_run.proofs.Simulation.Ops.{IdFits}

-- a node's row in the map, under that incarnation, marked dead
abbrev pub dead_row : (id incarnation : ℕ) → NodeInfo → Bool
dead_row id incarnation i = eqb i.node id and eqb i.incarnation incarnation and not i.alive

-- what no event of a run changes: the shard's key and holders, the map's nodes and collections
pub record World : Type 0 where
  pub key : Key
  pub holders : List Replica
  pub nodes : List NodeInfo
  pub collections : List Collection
  pub metric : Metric
  pub good_key : GoodKey key
  pub measured : metric_of (find (named key.collection) collections) ≡ some metric
  pub ids : (n : ℕ) → holds n holders ≡ true → U64 n
  pub alive : (n incarnation : ℕ) → any (listed_as n incarnation) holders ≡ true → any (dead_row n incarnation) nodes ≡ false

module _ (w : World) where
  -- ---- the map

  pub record MapSim (m : tables.Map) (a : Map) : Type 0 where
    pub formed : well_formed_map m ≡ true
    pub nodes : m.nodes ≡ w.nodes
    pub collections : m.collections ≡ w.collections
    pub shard : ShardInfo
    pub only : m.shards ≡ shard ∷ []
    pub key : shard.key ≡ w.key
    pub replicas : shard.replicas ≡ w.holders
    pub primary : shard.primary ≡ some a.primary
    pub epoch : shard.epoch ≡ a.epoch
    pub upto : a.epoch ≤ max_u64
    pub insync : (n : ℕ) → in_sync n shard.insync ≡ member n a.insync

  -- ---- a node

  abbrev pub is_holder : Peer → Bool
  is_holder q = holds q.node.0 w.holders

  -- the record's numbers of a peer, in its row
  pub record RowSim (l : Lead) (p : ℕ) (q : Peer) : Type 0 where
    pub acked : q.acked.0 ≡ l.acked p
    pub aligned : q.aligned ≡ l.aligned p
    pub joined : q.member ≡ member p l.ack

  -- a row for every other holder, and for no one else; the ack set has holders only
  pub record RowsSim (n : ℕ) (l : Lead) (rows : List Peer) : Type 0 where
    pub row : (p : ℕ) (q : Peer) → find (of_node p) rows ≡ some q → RowSim l p q
    pub holders : every is_holder rows ≡ true
    pub has : (p : ℕ) → holds p w.holders ≡ true → (p ≡ n → ⊥) → any (of_node p) rows ≡ true
    pub own : any (of_node n) rows ≡ false
    pub known : (p : ℕ) → In p l.ack → holds p w.holders ≡ true

  -- `top` is the map's epoch: no record is of a later one
  pub record LeadSim (top n : ℕ) (r : role.Role) (s : ShardReplica) (ps : List Peer) (l : Lead) : Type 0 where
    pub role : r ≡ Primary (record { 0 = l.epoch }) (record { 0 = l.end })
    pub epoch : s.epoch ≡ l.epoch
    pub end : l.end ≤ length s.log
    pub table : l.table ≡ epoch_ends (take l.end s.log)
    pub upto : l.epoch ≤ top
    pub rows : RowsSim n l ps

  abbrev pub RoleSim : (top n : ℕ) → role.Role → ShardReplica → List Peer → Role → Type 0
  RoleSim top n r s rows backup = r ≡ Backup
  RoleSim top n r s rows (lead l) = LeadSim top n r s rows l

  -- what goes on the wire fits: epochs and ids
  pub record LogFits (s : ShardReplica) : Type 0 where
    pub epoch : s.epoch ≤ max_u64
    pub entries : (i : ℕ) (e : Entry) → nth s.log i ≡ some e → (e.epoch ≤ s.epoch) × IdFits e.op

  pub record HeldSim (top n : ℕ) (h : Held) (b : Node) : Type 0 where
    pub key : h.key ≡ w.key
    pub holders : h.holders ≡ w.holders
    pub replica : h.replica ≡ b.replica
    pub fits : LogFits h.replica
    pub role : RoleSim top n h.role h.replica h.peers b.role

  pub record NodeSim (top n : ℕ) (x : held.Node) (b : Node) : Type 0 where
    pub id : proper_id w.holders n x.id ≡ true
    pub formed : FormedNode x
    pub here : holds n w.holders ≡ true → (h : Held) × (x.held ≡ h ∷ []) × HeldSim top n h b
    pub gone : holds n w.holders ≡ false → x.held ≡ []
    pub listed : holds n w.holders ≡ true → any (listed_as n x.incarnation) w.holders ≡ true

  -- ---- requests

  pub record AlignSim (to : ℕ) (q : run.Request) (e end : ℕ) (t : List End) : Type 0 where
    pub sent : q.sent ≡ sent_align
    pub key : q.key ≡ w.key
    pub epoch : q.epoch ≡ e
    pub metric : Metric
    pub decoded : decode_new_epoch q.bytes ≡ some (record { key = w.key; epoch = e; end = end; table = t; metric = metric })
    pub upto : e ≤ max_u64
    pub holder : holds to w.holders ≡ true

  pub record CopySim (q : run.Request) (e : ℕ) (es : Log) : Type 0 where
    pub sent : q.sent ≡ sent_copy
    pub message : message.Copied
    pub decoded : decode_copy_shard q.bytes ≡ some message
    pub key : (message).key ≡ w.key
    pub epoch : (message).epoch ≡ e
    pub inside : every entry_in_domain (message).entries ≡ true
    pub entries : map stored_entry (message).entries ≡ es

  -- one entry of the message's own epoch
  pub record LoneSim (q : run.Request) (e : ℕ) (es : Log) : Type 0 where
    pub sent : q.sent ≡ sent_replicate
    pub message : message.Replicated
    pub decoded : decode_replicate q.bytes ≡ some message
    pub key : (message).key ≡ w.key
    pub epoch : (message).epoch ≡ e
    pub inside : op_in_domain (message).op ≡ true
    pub entries : es ≡ record { epoch = e; offset = (message).offset; op = stored_op (message).op } ∷ []

  pub record SendSim (to : ℕ) (q : run.Request) (e : ℕ) (es : Log) : Type 0 where
    pub key : q.key ≡ w.key
    pub epoch : q.epoch ≡ e
    pub filled : is_empty es ≡ false
    pub formed : every well_formed_entry es ≡ true
    pub fits : All (λ (x : Entry). (x.epoch ≤ e) × IdFits x.op) es
    pub upto : e ≤ max_u64
    pub holder : holds to w.holders ≡ true
    pub way : CopySim q e es ⊎ LoneSim q e es

  abbrev pub RequestSim : (to : ℕ) → run.Request → Request → Type 0
  RequestSim to q (align e end t) = AlignSim to q e end t
  RequestSim to q (send e es) = SendSim to q e es

  -- the protocol's requests stay for good, so that a request has its place among them
  pub record RequestAt (to : ℕ) (rs : List Request) (q : run.Request) : Type 0 where
    pub place : ℕ
    pub request : Request
    pub found : nth rs place ≡ some request
    pub like : RequestSim to q request

  -- ---- replies

  -- what an answer brings about at a record of epoch e
  abbrev pub deed_for : Answer → (e : ℕ) → Deed
  deed_for (adopts t) e = record_ack t true
  deed_for (stores t) e = record_ack t false
  deed_for (stale_align x) e = cond (ltb e x) step_down nothing
  deed_for (stale_send x) e = cond (ltb e x) step_down unalign

  -- the protocol's replies stay for good, so that a reply has its place among them
  pub record ReplySim (rs : List Reply) (q : run.Reply) : Type 0 where
    pub place : ℕ
    pub answer : Answer
    pub found : nth rs place ≡ some (record { node = q.node; peer = q.peer; epoch = q.epoch; answer = answer })
    pub key : q.key ≡ w.key
    pub message : message.Reply
    pub decoded : decode_reply q.bytes ≡ some message
    pub deed : (e : ℕ) → deed_of q.sent message e ≡ deed_for answer e

  -- ---- proposals, outcomes, writes

  abbrev pub is_grow : ack.Proposal → Bool
  is_grow ack.shrink = false
  is_grow ack.grow = true

  abbrev pub proposal_of : run.Offer → Proposal
  proposal_of o = record { node = o.node; expand = is_grow o.what; peer = o.peer; epoch = o.epoch }

  pub record OfferFits (top : ℕ) (o : run.Offer) : Type 0 where
    pub key : o.key ≡ w.key
    pub peer : U64 o.peer
    pub upto : o.epoch ≤ top

  -- the outcomes that the protocol keeps: an applied Shrink
  abbrev pub shrinks : run.Outcome → Bool
  shrinks o = leaves o.what o.applied

  abbrev pub outcome_of : run.Outcome → Outcome
  outcome_of o = record { node = o.node; peer = o.peer; epoch = o.epoch }

  abbrev pub accepted_of : run.Write → Accepted
  accepted_of v = record { node = v.node; epoch = v.epoch; offset = v.offset; op = v.op }

  abbrev pub acknowledged_of : run.Write → Acknowledged
  acknowledged_of v = record { epoch = v.epoch; offset = v.offset; op = v.op }

  abbrev pub OutcomeKey : run.Outcome → Type 0
  OutcomeKey o = o.key ≡ w.key

  abbrev pub WriteKey : run.Write → Type 0
  WriteKey v = v.key ≡ w.key

  -- ---- the whole

  pub record Sim (s : run.State) (a : State) : Type 0 where
    pub table : MapSim s.map a.map
    pub nodes : (n : ℕ) → NodeSim a.map.epoch n (s.nodes n) (a.nodes n)
    pub clients : (n : ℕ) → U64 (s.clients n)
    pub requests : (from to : ℕ) → All (RequestAt to (a.requests from to)) (s.requests from to)
    pub replies : All (ReplySim a.replies) s.replies
    pub offers : map proposal_of s.offers ≡ a.proposals
    pub offered : All (OfferFits a.map.epoch) s.offers
    pub outcomes : collect shrinks outcome_of s.outcomes ≡ a.outcomes
    pub told : All OutcomeKey s.outcomes
    pub accepted : map accepted_of s.accepted ≡ a.accepted
    pub written : All WriteKey s.accepted
    pub acknowledged : map acknowledged_of s.acknowledged ≡ a.acknowledged
    pub known : All WriteKey s.acknowledged
