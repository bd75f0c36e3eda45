-- Paper 01, 'Who is turned down', 'Ack' and 'Outcome of a proposal' (node.rs: record_ack, unalign, step_down, done_proposing, and what
-- follows `propose`), on decoded values. The checks before them (21 of bytes, 24) are in Calls.antt. Definitions only.
use Rattle.std.specs.Prelude.{ℕ, ◌-◌, min, max, Bool, true, false, cond, not, eqb, leb, ltb}
use Rattle.std.proofs.Math.Option.{Option, none, some}
use Rattle.spec.specs.Lists.{◌and◌, ◌or◌, find}
use Rattle.spec.specs.Limits.{max_time}
use Rattle.spec.specs.Keys.{Key}
use Rattle.spec.specs.Refusals.{Refusal, undecodable, no_worker}
use Rattle.spec.specs.Log.{last_offset}
use Rattle.spec.specs.Map.Apply.{update}
use Rattle.spec.specs.Layout.Message.{Reply, reply_stored, reply_gap, reply_stale, reply_adopted}
use Rattle.spec.specs.Node.Held.{Held, Node}
use Rattle.spec.specs.Node.Shards.{Result, gives, at_shard, leads_at, of_node, with_peers, demoted}
use Rattle.spec.specs.declared.Peer.{Peer}

-- ---- ack

-- nothing to do, an Expand to propose for that peer, or 21, 24, 26
pub data AckAnswer : Type 0 where
  noted : AckAnswer
  expand : AckAnswer
  ack_refused : Refusal → AckAnswer

-- 'Ack': the step replied to
pub data Sent : Type 0 where
  sent_align : Sent
  sent_replicate : Sent
  sent_copy : Sent

-- 'Ack': 21 for Gap 0, or a Stored, Gap or Adopted value above 2^62
unfoldable pub bad_reply : Reply → Bool
bad_reply (reply_stored t) = ltb max_time t
bad_reply (reply_gap n) = eqb n 0 or ltb max_time n
bad_reply (reply_stale e) = false
bad_reply (reply_adopted t) = ltb max_time t

-- what a reply brings about: the record is left; the peer is to be aligned anew; its ack is recorded, by alignment or not
pub data Deed : Type 0 where
  nothing : Deed
  step_down : Deed
  unalign : Deed
  record_ack : (through : ℕ) → (aligned : Bool) → Deed

-- 'Ack': StaleEpoch at or below that epoch unaligns after a Send and does nothing after an Align
abbrev pub not_above : Sent → Deed
not_above sent_align = nothing
not_above sent_replicate = unalign
not_above sent_copy = unalign

-- 'Ack': what each reply does, by the step it replies to; Gap counts as next − 1
unfoldable pub deed_of : Sent → Reply → (epoch : ℕ) → Deed
deed_of s (reply_stale x) epoch = cond (ltb epoch x) step_down (not_above s)
deed_of sent_align (reply_adopted t) epoch = record_ack t true
deed_of sent_replicate (reply_adopted t) epoch = nothing
deed_of sent_copy (reply_adopted t) epoch = nothing
deed_of sent_align (reply_stored t) epoch = nothing
deed_of sent_replicate (reply_stored t) epoch = record_ack t false
deed_of sent_copy (reply_stored t) epoch = record_ack t false
deed_of sent_align (reply_gap n) epoch = nothing
deed_of sent_replicate (reply_gap n) epoch = record_ack (n - 1) false
deed_of sent_copy (reply_gap n) epoch = nothing

-- node.rs, record_ack: alignment sets the ack, cut to the log's end; any other only raises it
unfoldable pub acked_through : (last through : ℕ) → (aligned : Bool) → Peer → ℕ
acked_through last through true p = min through last
acked_through last through false p = max p.acked.0 through

-- node.rs, record_ack: the peer has the whole log
abbrev pub caught_up : (last through : ℕ) → (aligned : Bool) → Peer → Bool
caught_up last through aligned p = leb last (acked_through last through aligned p)

-- node.rs, record_ack: a peer that has caught up joins the ack set, before its Expand is proposed
unfoldable pub joins : (last through : ℕ) → (aligned : Bool) → Peer → Bool
joins last through aligned p = caught_up last through aligned p and not p.member and not p.proposing

-- node.rs, record_ack: the row after
unfoldable pub ack_row : (last through : ℕ) → (aligned : Bool) → Peer → Peer
ack_row last through aligned p = record {
  node = p.node;
  acked = record { 0 = acked_through last through aligned p };
  aligned = p.aligned or aligned;
  behind = p.behind and not (caught_up last through aligned p);
  since = p.since;
  proposing = p.proposing or joins last through aligned p;
  member = p.member or joins last through aligned p;
}

-- node.rs, unalign
unfoldable pub unaligned : Peer → Peer
unaligned p = record {
  node = p.node;
  acked = p.acked;
  aligned = false;
  behind = p.behind;
  since = p.since;
  proposing = p.proposing;
  member = p.member;
}

-- one peer's row changed
abbrev pub on_row : Held → ℕ → (Peer → Peer) → Held
on_row h k f = with_peers h (update (of_node k) f h.peers)

-- a deed for the peer k, whose row is p
unfoldable pub do_deed : Held → ℕ → Peer → Deed → Result AckAnswer Held
do_deed h k p nothing = gives noted h
do_deed h k p step_down = gives noted (demoted h)
do_deed h k p unalign = gives noted (on_row h k unaligned)
do_deed h k p (record_ack t a) =
    let last = last_offset h.replica in
    gives (cond (joins last t a p) expand noted) (on_row h k (ack_row last t a))

-- 'Ack': 26 a peer with no worker, before anything is done
abbrev pub deed_at : Held → ℕ → Deed → Option Peer → Result AckAnswer Held
deed_at h k d none = gives (ack_refused no_worker) h
deed_at h k d (some p) = do_deed h k p d

-- 'Ack': without a primary at that epoch nothing happens
unfoldable pub ack_held : (epoch peer : ℕ) → Sent → Reply → Held → Result AckAnswer Held
ack_held epoch peer s r h =
    cond (leads_at h.role epoch) (deed_at h peer (deed_of s r epoch) (find (of_node peer) h.peers)) (gives noted h)

-- 'Ack': 21, then without the shard nothing happens
unfoldable pub on_ack : Node → Key → (epoch peer : ℕ) → Sent → Reply → Result AckAnswer Node
on_ack n k epoch peer s r =
    cond (bad_reply r) (gives (ack_refused undecodable) n) (at_shard n k noted (ack_held epoch peer s r))

-- ---- outcome of a proposal

-- the outcome is taken note of, or refused (24)
pub data OutcomeAnswer : Type 0 where
  settled : OutcomeAnswer
  outcome_refused : Refusal → OutcomeAnswer

-- what a node proposes
pub data Proposal : Type 0 where
  shrink : Proposal
  grow : Proposal

-- 'Outcome of a proposal': only an applied Shrink takes the peer out of the ack set; a timeout or a refusal is not applied
abbrev pub leaves : Proposal → (applied : Bool) → Bool
leaves shrink applied = applied
leaves grow applied = false

-- node.rs, after `propose`: the row after; `left` says that the peer leaves the ack set
unfoldable pub settled_row : (left : Bool) → Peer → Peer
settled_row left p = record {
  node = p.node;
  acked = p.acked;
  aligned = p.aligned;
  behind = p.behind and not left;
  since = p.since;
  proposing = false;
  member = p.member and not left;
}

-- 'Outcome of a proposal': without a primary at that epoch nothing happens; the node `me` itself can leave its ack set too
unfoldable pub outcome_held : (me epoch peer : ℕ) → (left : Bool) → Held → Held
outcome_held me epoch peer left h =
    cond (leads_at h.role epoch)
    (record {
      key = h.key;
      replica = h.replica;
      holders = h.holders;
      role = h.role;
      own = h.own and not (left and eqb peer me);
      peers = update (of_node peer) (settled_row left) h.peers;
    })
    h

-- 'Outcome of a proposal': at the shard, with the call's answer
abbrev pub outcome_at : (me epoch peer : ℕ) → (left : Bool) → Held → Result OutcomeAnswer Held
outcome_at me epoch peer left h = gives settled (outcome_held me epoch peer left h)

-- 'Outcome of a proposal': without the shard nothing happens
unfoldable pub on_outcome : Node → Key → (epoch peer : ℕ) → Proposal → (applied : Bool) → Result OutcomeAnswer Node
on_outcome n k epoch peer what applied = at_shard n k settled (outcome_at n.id epoch peer (leaves what applied))
