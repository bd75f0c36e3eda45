-- Paper 01, 'The node', 'Who is turned down' (node.rs: write, search, check_acks): Write, Search and waiting for acks, on decoded
-- values. The checks before them (21, 22, 24) are in Calls.antt, the count of refused calls in Refused.antt. Definitions only.
use Rattle.std.specs.Prelude.{ℕ, ◌+◌, ◌-◌, Bool, true, false, cond, not, List, [], map, ltb, length, Float}
use Rattle.spec.specs.Lists.{◌and◌, ◌or◌, every, collect, filter}
use Rattle.spec.specs.Limits.{max_entries}
use Rattle.spec.specs.Keys.{Key}
use Rattle.spec.specs.Refusals.{Refusal, unknown_shard, not_primary, no_lease, too_few_in_sync, no_room}
use Rattle.spec.specs.Nearest.Search.{hits}
use Rattle.spec.specs.Log.{Op, ShardReplica, append, last_offset}
use Rattle.spec.specs.Node.Held.{Held, Node}
use Rattle.spec.specs.Node.Shards.{Result, gives, at_shard, leads_at, with_replica, with_peers}
use Rattle.spec.specs.Node.Lease.{leased}
use Rattle.spec.specs.declared.Peer.{Peer}
use Rattle.spec.specs.declared.DataNodeId.{DataNodeId}
use Rattle.spec.specs.declared.Neighbor.{Neighbor}

-- ---- Write

-- the offset at which the write was accepted, or 17 to 24
pub data WriteAnswer : Type 0 where
  accepted : (offset : ℕ) → WriteAnswer
  write_refused : Refusal → WriteAnswer

-- a peer in the ack set
abbrev pub is_member : Peer → Bool
is_member p = p.member

-- node.rs, `ack_set.len()`: the peers in the ack set, and this node if it is in it too
unfoldable pub ack_count : Held → ℕ
ack_count h = length (filter is_member h.peers) + cond h.own 1 0

-- 'The log': more entries than a log may have
abbrev pub overfull : ShardReplica → Bool
overfull r = ltb max_entries (last_offset r)

-- 'Who is turned down', Write: 18, 19, 20, 23; otherwise the operation is appended
unfoldable pub write_held : (lease : Bool) → (least epoch : ℕ) → Op → Held → Result WriteAnswer Held
write_held lease least epoch op h =
    let r = append h.replica op in
    cond (not (leads_at h.role epoch)) (gives (write_refused (not_primary h.replica.epoch)) h)
    (cond (not lease) (gives (write_refused no_lease) h)
    (cond (ltb (ack_count h) least) (gives (write_refused too_few_in_sync) h)
    (cond (overfull r) (gives (write_refused no_room) h)
    (gives (accepted (last_offset r)) (with_replica h r)))))

-- 'Who is turned down', Write: 17, and the rest at the shard. `least` is min_in_sync
unfoldable pub on_write : Node → (now least : ℕ) → Key → (epoch : ℕ) → Op → Result WriteAnswer Node
on_write n now least k epoch op = at_shard n k (write_refused unknown_shard) (write_held (leased n now) least epoch op)

-- ---- Search

-- the neighbours found, nearest first, or 17 to 24
pub data SearchAnswer : Type 0 where
  found : List Neighbor → SearchAnswer
  search_refused : Refusal → SearchAnswer

-- 'Who is turned down', Search: 18, 19, then 23 if the lent output is short of the answer
unfoldable pub search_held : (lease : Bool) → (room epoch k : ℕ) → List Float → Held → Result SearchAnswer Held
search_held lease room epoch k query h =
    let l = hits h.replica.metric query h.replica.vectors k in
    cond (not (leads_at h.role epoch)) (gives (search_refused (not_primary h.replica.epoch)) h)
    (cond (not lease) (gives (search_refused no_lease) h)
    (cond (ltb room (length l)) (gives (search_refused no_room) h)
    (gives (found l) h)))

-- 'Who is turned down', Search: 17, and the rest at the shard. `room` is how many neighbours the lent output holds
unfoldable pub on_search : Node → (now room : ℕ) → Key → (epoch k : ℕ) → List Float → Result SearchAnswer Node
on_search n now room key epoch k query =
    at_shard n key (search_refused unknown_shard) (search_held (leased n now) room epoch k query)

-- ---- waiting for acks

-- whether every member of the ack set has the offset, with the peers for which a Shrink is to be proposed; or 17, 18, 21, 24
pub data WaitAnswer : Type 0 where
  done : (shrink : List DataNodeId) → WaitAnswer
  waiting : (shrink : List DataNodeId) → WaitAnswer
  wait_refused : Refusal → WaitAnswer

-- node.rs, check_acks: a member of the ack set that has not acked the offset
abbrev pub lacks : ℕ → Peer → Bool
lacks o p = p.member and ltb p.acked.0 o

-- node.rs, check_acks: since when a member has been behind; it starts now where it was not
abbrev pub behind_since : Peer → ℕ → ℕ
behind_since p now = cond p.behind p.since now

-- 'The node': a clock reading before the stored one counts as zero elapsed
abbrev pub overdue : (now timeout : ℕ) → Peer → Bool
overdue now timeout p = ltb timeout (now - behind_since p now)

-- node.rs, check_acks: members behind the last offset for longer than the timeout, with no proposal under way
abbrev pub to_shrink : (last now timeout : ℕ) → Peer → Bool
to_shrink last now timeout p = lacks last p and overdue now timeout p and not p.proposing

-- node.rs, check_acks: what the wait leaves of a row
unfoldable pub wait_row : (last now timeout : ℕ) → Peer → Peer
wait_row last now timeout p =
    cond (lacks last p)
    (record {
      node = p.node;
      acked = p.acked;
      aligned = p.aligned;
      behind = true;
      since = behind_since p now;
      proposing = p.proposing or overdue now timeout p;
      member = p.member;
    })
    p

-- a row's node
abbrev pub node_of : Peer → DataNodeId
node_of p = p.node

-- node.rs, check_acks: not a member that lacks the offset
abbrev pub has_acked : ℕ → Peer → Bool
has_acked o p = not (lacks o p)

-- 'Who is turned down', waiting for acks: 18; otherwise as check_acks, proposals by rising node
unfoldable pub wait_held : (now timeout epoch offset : ℕ) → Held → Result WaitAnswer Held
wait_held now timeout epoch offset h =
    let last = last_offset h.replica in
    let shrink = collect (to_shrink last now timeout) node_of h.peers in
    cond (not (leads_at h.role epoch)) (gives (wait_refused (not_primary h.replica.epoch)) h)
    (gives (cond (every (has_acked offset) h.peers) (done shrink) (waiting shrink))
    (with_peers h (map (wait_row last now timeout) h.peers)))

-- 'Who is turned down', waiting for acks: 17, and the rest at the shard
unfoldable pub on_wait : Node → (now timeout : ℕ) → Key → (epoch offset : ℕ) → Result WaitAnswer Node
on_wait n now timeout k epoch offset = at_shard n k (wait_refused unknown_shard) (wait_held now timeout epoch offset)
