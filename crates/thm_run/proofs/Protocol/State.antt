-- The protocol of one shard: the part of a run's state that demand 3 depends on, and its moves. Paper 01, 'Rules of a run'.
-- Every event of a run is a list of these moves. The moves allow more runs than the paper: a reply may count at any time, any
-- number of times, or never, whichever request was the latest; a request at the head of its link may be heard again before it
-- leaves; a batch is any part of the primary's log; the map may take any proposal whatever its number; a primary may propose to
-- shrink anybody at any time, and may write and wait whatever the clock, the lease and the count of nodes in sync.
-- A move that its test does not allow leaves the state: every list of moves is a run. Definitions only.
use Prim.Native.Nat.{ℕ, zero, suc, ◌+◌, min, max}
use mathlib.Core.Bool.{Bool, true, false, cond}
use mathlib.Core.List.{List, [], ◌∷◌, ◌++◌}
use mathlib.Core.Option.{Option, none, some}
use lib.Dec.{eqb, leb, ltb}
use lib.ListN.{length}
use Rattle.spec.specs.declared.Metric.{Metric}
use Rattle.spec.specs.Lists.{◌and◌, ◌or◌, nth, every}
use Rattle.spec.specs.Log.{Op, Entry, Log, End, ShardReplica, empty_replica, append, cut_to, store_all, promote, epoch_ends, entries_from}
use Rattle.thm_run.proofs.Protocol.Base.{upd, upd2, remove_at}
use Rattle.thm_run.proofs.Protocol.Sets.{member, without}

-- the shard in the map
pub record Map : Type 0 where
  pub epoch : ℕ
  pub primary : ℕ
  pub insync : List ℕ

-- what a primary tracks: the end and the table of its log when it became one, its ack set, and of each peer how far it has
-- acknowledged and whether it has adopted this epoch
pub record Lead : Type 0 where
  pub epoch : ℕ
  pub end : ℕ
  pub table : List End
  pub ack : List ℕ
  pub acked : ℕ → ℕ
  pub aligned : ℕ → Bool

pub data Role : Type 0 where
  backup : Role
  lead : Lead → Role

pub record Node : Type 0 where
  pub replica : ShardReplica
  pub role : Role

-- NewEpoch; and Replicate or CopyShard, which store alike: Replicate is a batch of one entry of the message's epoch
pub data Request : Type 0 where
  align : (epoch end : ℕ) → List End → Request
  send : (epoch : ℕ) → Log → Request

-- what a request is answered. A Gap is stored up to the offset before it. StaleEpoch, by the step it answers
pub data Answer : Type 0 where
  adopts : ℕ → Answer
  stores : ℕ → Answer
  stale_align : ℕ → Answer
  stale_send : ℕ → Answer

-- an answer under way: from the peer, to the node that asked, for a request of this epoch
pub record Reply : Type 0 where
  pub node : ℕ
  pub peer : ℕ
  pub epoch : ℕ
  pub answer : Answer

-- a proposal under way to the map, awaited or timed out, with the node that made it: Expand or Shrink
pub record Proposal : Type 0 where
  pub node : ℕ
  pub expand : Bool
  pub peer : ℕ
  pub epoch : ℕ

-- the outcome 'applied' of a Shrink, under way to the node that proposed it. No other outcome changes what is read here
pub record Outcome : Type 0 where
  pub node : ℕ
  pub peer : ℕ
  pub epoch : ℕ

pub record Accepted : Type 0 where
  pub node : ℕ
  pub epoch : ℕ
  pub offset : ℕ
  pub op : Op

pub record Acknowledged : Type 0 where
  pub epoch : ℕ
  pub offset : ℕ
  pub op : Op

-- requests by sender and receiver. Requests and replies stay: each has its clause for good
pub record State : Type 0 where
  pub map : Map
  pub nodes : ℕ → Node
  pub requests : ℕ → ℕ → List Request
  pub replies : List Reply
  pub proposals : List Proposal
  pub outcomes : List Outcome
  pub accepted : List Accepted
  pub acknowledged : List Acknowledged

pub data Move : Type 0 where
  promotion : (node : ℕ) → Move
  decision : (place : ℕ) → (told : Bool) → Move
  rejection : (place : ℕ) → Move
  outcome : (place : ℕ) → Move
  silence : (place : ℕ) → Move
  showing : (node : ℕ) → Move
  writing : (node : ℕ) → Op → Move
  alignment : (node peer : ℕ) → Move
  batch : (node peer from size : ℕ) → Move
  arrival : (node peer place : ℕ) → Move
  counting : (place : ℕ) → Move
  joining : (place : ℕ) → Move
  suspicion : (node peer : ℕ) → Move
  waiting : (place : ℕ) → Move

-- one part replaced
unfoldable pub set_map : State → Map → State
set_map s m = record {
  map = m;
  nodes = s.nodes;
  requests = s.requests;
  replies = s.replies;
  proposals = s.proposals;
  outcomes = s.outcomes;
  accepted = s.accepted;
  acknowledged = s.acknowledged;
}

unfoldable pub set_node : State → ℕ → Node → State
set_node s n x = record {
  map = s.map;
  nodes = upd s.nodes n x;
  requests = s.requests;
  replies = s.replies;
  proposals = s.proposals;
  outcomes = s.outcomes;
  accepted = s.accepted;
  acknowledged = s.acknowledged;
}

unfoldable pub set_requests : State → ℕ → ℕ → List Request → State
set_requests s a p l = record {
  map = s.map;
  nodes = s.nodes;
  requests = upd2 s.requests a p l;
  replies = s.replies;
  proposals = s.proposals;
  outcomes = s.outcomes;
  accepted = s.accepted;
  acknowledged = s.acknowledged;
}

unfoldable pub add_reply : State → Reply → State
add_reply s r = record {
  map = s.map;
  nodes = s.nodes;
  requests = s.requests;
  replies = s.replies ++ (r ∷ []);
  proposals = s.proposals;
  outcomes = s.outcomes;
  accepted = s.accepted;
  acknowledged = s.acknowledged;
}

unfoldable pub set_proposals : State → List Proposal → State
set_proposals s l = record {
  map = s.map;
  nodes = s.nodes;
  requests = s.requests;
  replies = s.replies;
  proposals = l;
  outcomes = s.outcomes;
  accepted = s.accepted;
  acknowledged = s.acknowledged;
}

unfoldable pub set_outcomes : State → List Outcome → State
set_outcomes s l = record {
  map = s.map;
  nodes = s.nodes;
  requests = s.requests;
  replies = s.replies;
  proposals = s.proposals;
  outcomes = l;
  accepted = s.accepted;
  acknowledged = s.acknowledged;
}

unfoldable pub add_accepted : State → Accepted → State
add_accepted s w = record {
  map = s.map;
  nodes = s.nodes;
  requests = s.requests;
  replies = s.replies;
  proposals = s.proposals;
  outcomes = s.outcomes;
  accepted = s.accepted ++ (w ∷ []);
  acknowledged = s.acknowledged;
}

unfoldable pub add_acknowledged : State → Acknowledged → State
add_acknowledged s w = record {
  map = s.map;
  nodes = s.nodes;
  requests = s.requests;
  replies = s.replies;
  proposals = s.proposals;
  outcomes = s.outcomes;
  accepted = s.accepted;
  acknowledged = s.acknowledged ++ (w ∷ []);
}

-- state.rs, PromotePrimary: the old primary leaves the in_sync_lem set, unless it is the new one
unfoldable pub promoted : Map → ℕ → Map
promoted m q = record {
  epoch = suc m.epoch;
  primary = q;
  insync = cond (eqb q m.primary) m.insync (without m.primary m.insync);
}

unfoldable pub on_promote : State → ℕ → State
on_promote s q = cond (member q s.map.insync) (set_map s (promoted s.map q)) s

-- state.rs, ExpandInSync and ShrinkInSync: when they apply, and the set after
unfoldable pub may_take : Map → Proposal → Bool
may_take m v =
    eqb v.epoch m.epoch
    and cond v.expand true (cond (eqb v.peer m.primary) false (member v.peer m.insync))

unfoldable pub resized : Map → List ℕ → Map
resized m l = record { epoch = m.epoch; primary = m.primary; insync = l }

unfoldable pub expanded : State → ℕ → Proposal → State
expanded s i v = set_proposals (set_map s (resized s.map (v.peer ∷ s.map.insync))) (remove_at s.proposals i)

-- the outcome goes under way only if it is still awaited
unfoldable pub shrunk : State → ℕ → Proposal → Bool → State
shrunk s i v told =
    set_outcomes
    (set_proposals (set_map s (resized s.map (without v.peer s.map.insync))) (remove_at s.proposals i))
    (cond told (s.outcomes ++ (record { node = v.node; peer = v.peer; epoch = v.epoch } ∷ [])) s.outcomes)

unfoldable pub take_as : State → ℕ → Bool → Option Proposal → State
take_as s i told none = s
take_as s i told (some v) = cond (may_take s.map v) (cond v.expand (expanded s i v) (shrunk s i v told)) s

unfoldable pub on_take : State → ℕ → Bool → State
on_take s i told = take_as s i told (nth s.proposals i)

-- a proposal is lost, or rejected
unfoldable pub on_forget : State → ℕ → State
on_forget s i = set_proposals s (remove_at s.proposals i)

-- the primary record of an epoch, if a role has it
unfoldable pub lead_at : Role → ℕ → Option Lead
lead_at backup e = none
lead_at (lead l) e = cond (eqb l.epoch e) (some l) none

unfoldable pub with_role : Node → Role → Node
with_role x r = record { replica = x.replica; role = r }

unfoldable pub with_ack : Lead → List ℕ → Lead
with_ack l w = record { epoch = l.epoch; end = l.end; table = l.table; ack = w; acked = l.acked; aligned = l.aligned }

-- node.rs, check_acks, after its proposal: only an applied Shrink takes the member out of the ack set
unfoldable pub told_as : State → Outcome → Option Lead → State
told_as s v none = s
told_as s v (some l) = set_node s v.node (with_role (s.nodes v.node) (lead (with_ack l (without v.peer l.ack))))

unfoldable pub tell_as : State → ℕ → Option Outcome → State
tell_as s i none = s
tell_as s i (some v) = told_as (set_outcomes s (remove_at s.outcomes i)) v (lead_at (s.nodes v.node).role v.epoch)

unfoldable pub on_tell : State → ℕ → State
on_tell s i = tell_as s i (nth s.outcomes i)

-- an outcome is lost
unfoldable pub on_untell : State → ℕ → State
on_untell s i = set_outcomes s (remove_at s.outcomes i)

-- node.rs, on_map: a record for the map's epoch, if the map names this node and it has none
unfoldable pub leader : Node → Map → Node
leader x m = record {
  replica = promote x.replica m.epoch;
  role =
      lead (record {
        epoch = m.epoch;
        end = length x.replica.log;
        table = epoch_ends x.replica.log;
        ack = m.insync;
        acked = λ p. 0;
        aligned = λ p. false;
      });
}

unfoldable pub show_as : State → ℕ → Option Lead → State
show_as s n (some l) = s
show_as s n none = cond (leb (s.nodes n).replica.epoch s.map.epoch) (set_node s n (leader (s.nodes n) s.map)) s

unfoldable pub on_show : State → ℕ → State
on_show s n =
    cond (eqb s.map.primary n)
    (show_as s n (lead_at (s.nodes n).role s.map.epoch))
    (set_node s n (with_role (s.nodes n) backup))

-- node.rs, write
unfoldable pub write_as : State → ℕ → Op → Role → State
write_as s n op backup = s
write_as s n op (lead l) =
    add_accepted
    (set_node s n (record { replica = append (s.nodes n).replica op; role = lead l }))
    (record { node = n; epoch = l.epoch; offset = suc (length (s.nodes n).replica.log); op = op })

unfoldable pub on_write : State → ℕ → Op → State
on_write s n op = write_as s n op (s.nodes n).role

-- node.rs, replicate_to: a request goes under way
unfoldable pub post : State → ℕ → ℕ → Request → State
post s a p r = set_requests s a p (s.requests a p ++ (r ∷ []))

unfoldable pub align_as : State → ℕ → ℕ → Role → State
align_as s a p backup = s
align_as s a p (lead l) =
    let asks = post s a p (align l.epoch l.end l.table) in cond (eqb a p) asks (cond (l.aligned p) s asks)

unfoldable pub on_align : State → ℕ → ℕ → State
on_align s a p = align_as s a p (s.nodes a).role

unfoldable pub send_batch : State → ℕ → ℕ → ℕ → Log → State
send_batch s a p e [] = s
send_batch s a p e (x ∷ xs) = post s a p (send e (x ∷ xs))

unfoldable pub send_as : State → ℕ → ℕ → ℕ → ℕ → Role → State
send_as s a p from size backup = s
send_as s a p from size (lead l) =
    cond (eqb a p) s (cond (l.aligned p) (send_batch s a p l.epoch (entries_from (s.nodes a).replica.log from size)) s)

unfoldable pub on_send : State → ℕ → ℕ → ℕ → ℕ → State
on_send s a p from size = send_as s a p from size (s.nodes a).role

-- a record of this epoch or a later one
unfoldable pub leads_from : Role → ℕ → Bool
leads_from backup e = false
leads_from (lead l) e = leb e l.epoch

-- node.rs, on_new_epoch, on_replicate, on_copy: a request is heard, and the answer goes under way
unfoldable pub replied : State → ℕ → ℕ → ℕ → Answer → State
replied s a p e v = add_reply s (record { node = a; peer = p; epoch = e; answer = v })

unfoldable pub adopting : Node → ℕ → ℕ → List End → Node
adopting x e end t = record { replica = cut_to x.replica e end t; role = backup }

unfoldable pub storing : Node → ℕ → Log → Node
storing x e es = record { replica = store_all x.replica e es; role = x.role }

unfoldable pub hear_one : State → ℕ → ℕ → Node → Request → State
hear_one s a p x (align e end t) =
    cond (leads_from x.role e)
    (replied s a p e (stale_align x.replica.epoch))
    (cond (ltb e x.replica.epoch)
    (replied s a p e (stale_align x.replica.epoch))
    (cond (eqb e x.replica.epoch)
    (replied (set_node s p (with_role x backup)) a p e (adopts (length x.replica.log)))
    (replied (set_node s p (adopting x e end t)) a p e (adopts (length (cut_to x.replica e end t).log)))))
hear_one s a p x (send e es) =
    cond (eqb e x.replica.epoch)
    (replied (set_node s p (storing x e es)) a p e (stores (length (store_all x.replica e es).log)))
    (replied s a p e (stale_send x.replica.epoch))

unfoldable pub hear_as : State → ℕ → ℕ → Option Request → State
hear_as s a p none = s
hear_as s a p (some r) = hear_one s a p (s.nodes p) r

-- any request that was ever put under way is heard, at any time, any number of times
unfoldable pub on_hear : State → ℕ → ℕ → ℕ → State
on_hear s a p i = hear_as s a p (nth (s.requests a p) i)

-- node.rs, record_ack, step_down, unalign: what a reply makes of the record
unfoldable pub with_peer : Lead → ℕ → ℕ → Bool → Lead
with_peer l p t b = record {
  epoch = l.epoch;
  end = l.end;
  table = l.table;
  ack = l.ack;
  acked = upd l.acked p t;
  aligned = upd l.aligned p b;
}

unfoldable pub counted_as : Lead → ℕ → ℕ → Answer → Role
counted_as l last p (adopts t) = lead (with_peer l p (min t last) true)
counted_as l last p (stores t) = lead (with_peer l p (max (l.acked p) t) (l.aligned p))
counted_as l last p (stale_align x) = cond (ltb l.epoch x) backup (lead l)
counted_as l last p (stale_send x) = cond (ltb l.epoch x) backup (lead (with_peer l p (l.acked p) false))

unfoldable pub count_role : State → Reply → Option Lead → State
count_role s r none = s
count_role s r (some l) =
    set_node s r.node
    (with_role (s.nodes r.node) (counted_as l (length (s.nodes r.node).replica.log) r.peer r.answer))

unfoldable pub count_as : State → Option Reply → State
count_as s none = s
count_as s (some r) = count_role s r (lead_at (s.nodes r.node).role r.epoch)

unfoldable pub on_count : State → ℕ → State
on_count s i = count_as s (nth s.replies i)

-- node.rs, record_ack: a peer that holds all joins the ack set, and then Expand is proposed
unfoldable pub is_positive : Answer → Bool
is_positive (adopts t) = true
is_positive (stores t) = true
is_positive (stale_align x) = false
is_positive (stale_send x) = false

unfoldable pub may_join : Lead → ℕ → Reply → Bool
may_join l last r = is_positive r.answer and leb last (l.acked r.peer) and cond (member r.peer l.ack) false true

unfoldable pub join_lead : State → Reply → Option Lead → State
join_lead s r none = s
join_lead s r (some l) =
    cond (may_join l (length (s.nodes r.node).replica.log) r)
    (set_proposals
    (set_node s r.node (with_role (s.nodes r.node) (lead (with_ack l (r.peer ∷ l.ack)))))
    (s.proposals ++ (record { node = r.node; expand = true; peer = r.peer; epoch = l.epoch } ∷ [])))
    s

unfoldable pub join_as : State → Option Reply → State
join_as s none = s
join_as s (some r) = join_lead s r (lead_at (s.nodes r.node).role r.epoch)

unfoldable pub on_join : State → ℕ → State
on_join s i = join_as s (nth s.replies i)

-- node.rs, check_acks: a Shrink is proposed
unfoldable pub suspect_as : State → ℕ → ℕ → Role → State
suspect_as s a p backup = s
suspect_as s a p (lead l) = set_proposals s (s.proposals ++ (record { node = a; expand = false; peer = p; epoch = l.epoch } ∷ []))

unfoldable pub on_suspect : State → ℕ → ℕ → State
on_suspect s a p = suspect_as s a p (s.nodes a).role

-- node.rs, check_acks: every other member of the ack set holds the offset
unfoldable pub all_acked : ℕ → ℕ → Lead → Bool
all_acked n o l = every (λ m. eqb m n or leb o (l.acked m)) l.ack

unfoldable pub ack_lead : State → Accepted → Option Lead → State
ack_lead s w none = s
ack_lead s w (some l) =
    cond (all_acked w.node w.offset l)
    (add_acknowledged s (record { epoch = w.epoch; offset = w.offset; op = w.op }))
    s

unfoldable pub ack_as : State → Option Accepted → State
ack_as s none = s
ack_as s (some w) = ack_lead s w (lead_at (s.nodes w.node).role w.epoch)

unfoldable pub on_acknowledge : State → ℕ → State
on_acknowledge s i = ack_as s (nth s.accepted i)

unfoldable pub step : State → Move → State
step s (promotion q) = on_promote s q
step s (decision i told) = on_take s i told
step s (rejection i) = on_forget s i
step s (outcome i) = on_tell s i
step s (silence i) = on_untell s i
step s (showing n) = on_show s n
step s (writing n op) = on_write s n op
step s (alignment a p) = on_align s a p
step s (batch a p from size) = on_send s a p from size
step s (arrival a p i) = on_hear s a p i
step s (counting i) = on_count s i
step s (joining i) = on_join s i
step s (suspicion a p) = on_suspect s a p
step s (waiting i) = on_acknowledge s i

unfoldable pub run : State → List Move → State
run s [] = s
run s (v ∷ vs) = run (step s v) vs

-- 'Fresh': the first holder p leads at epoch 1, the others have the shard at epoch 0, all are in sync, nothing has happened
unfoldable pub fresh : Metric → ℕ → List ℕ → State
fresh k p others = record {
  map = record { epoch = 1; primary = p; insync = p ∷ others };
  nodes =
      upd (λ n. record { replica = empty_replica 0 k; role = backup }) p
      (record {
        replica = empty_replica 1 k;
        role =
            lead (record { epoch = 1; end = 0; table = []; ack = p ∷ others; acked = λ m. 0; aligned = λ m. false });
      });
  requests = λ a b. [];
  replies = [];
  proposals = [];
  outcomes = [];
  accepted = [];
  acknowledged = [];
}
