-- Paper 01, 'Rules of a run', with requests 2.3 and 2.5 of paper 02, read to the letter: which events may happen, sentence by sentence, with the
-- history that the sentences speak of and the state of a run does not hold. Rules.antt allows more; that it allows every run of the paper is `Paper.Allowed.paper-allowed` in
-- proofs. Definitions only.
--
-- What the step does itself (Step.antt) is not said again: each call gets what the last one left, a shown map is the map of that moment, a
-- request that arrives is the call of its kind, its answer goes back, what has arrived or is lost is under way no more, a timeout is the
-- outcome and none follows it. How a lone older entry goes is no rule of a run since request 2.5. That a worker has stopped since it was started is not asked.
use Rattle.std.specs.Prelude.{ℕ, suc, ◌<◌, Bool, true, false, List, [], ◌∷◌, ◌++◌, map, eqb, ltb, leb, length, drop}
use Rattle.std.proofs.Math.Option.{Option, none, some}
use Rattle.spec.specs.Keys.{Key, same_key}
use Rattle.spec.specs.Lists.{◌and◌, any, every, find, nth}
use Rattle.spec.specs.Map.Tables.{ShardInfo, Session}
use Rattle.spec.specs.Map.Apply.{session_at}
use Rattle.spec.specs.Layout.Request as layout
use Rattle.spec.specs.Layout.Request.{decode_request}
use Rattle.spec.specs.Node.Held.{empty_node}
use Rattle.spec.specs.Node.Shown as show
use Rattle.spec.specs.Node.Shown.{ShownAnswer, Worker, take_map}
use Rattle.spec.specs.Node.Calls.{call_shown}
use Rattle.spec.specs.declared.Replica.{Replica}
use Rattle.spec.specs.declared.Metric.{Metric}
use Rattle.spec.specs.declared.Metric.TheVariants.{Euclidean, Angular}
use Rattle.spec_run.specs.State.{State, Request, Reply, Offer, at}
use Rattle.spec_run.specs.Step.{removed, step}
use Rattle.spec_run.specs.Rules.{is_bytes, is_u64, is_promote}
use Rattle.spec_run.specs.Event.{
  Event,
  command,
  map_shown,
  lease_granted,
  client_writes,
  client_searches,
  node_waits,
  worker_steps,
  request_arrives,
  request_lost,
  request_repeats,
  reply_arrives,
  reply_lost,
  reply_repeats,
  offer_arrives,
  offer_lost,
  offer_times_out,
  outcome_arrives,
  outcome_lost,
  outcome_times_out,
}

-- ---- the history

-- who sends commands under a client number: a node its proposals, or anyone else Promote
pub data Sender : Type 0 where
  proposer : (node : ℕ) → Sender
  another : Sender

-- a proposal under way: whose it is, and how many that node had made before it
pub record Turn : Type 0 where
  pub node : ℕ
  pub turn : ℕ

-- 'Commands': the last index; who has sent under which client number; how many proposals each node has made; those under way, in the places
-- of `offers`
pub record Commanded : Type 0 where
  pub index : ℕ
  pub senders : ℕ → Option Sender
  pub proposed : ℕ → ℕ
  pub turns : List Turn

-- 'At a node': a worker that a shown map started
pub record Started : Type 0 where
  pub node : ℕ
  pub worker : Worker

-- 'Messages': a request that a worker put under way, with its number among all of them
pub record Posted : Type 0 where
  pub node : ℕ
  pub key : Key
  pub epoch : ℕ
  pub peer : ℕ
  pub number : ℕ

-- 'Messages': how many requests there have been; the numbers of those under way, in the places of `requests`; of each reply under way, in the
-- places of `replies`, the number of the request which it answers; every request of a worker, the latest first
pub record Mail : Type 0 where
  pub count : ℕ
  pub requests : ℕ → ℕ → List ℕ
  pub replies : List ℕ
  pub posted : List Posted

pub record History : Type 0 where
  pub commanded : Commanded
  pub workers : List Started
  pub mail : Mail

-- ---- how a run begins

-- 'All client numbers differ': what a fresh map remembers was sent by others
abbrev pub before : Option Session → Option Sender
before none = none
before (some x) = some another

-- the workers that a shown map starts; a refused one starts none
abbrev pub starts_of : ShownAnswer → List Worker
starts_of (show.shown ws) = ws
starts_of (show.shown_refused r) = []

abbrev pub started_at : ℕ → Worker → Started
started_at n w = record { node = n; worker = w }

-- 'Fresh': all have been shown that map
unfoldable pub first_started : State → List Replica → List Started
first_started s [] = []
first_started s (r ∷ rs) =
    let n = r.node.0 in
    map (started_at n) (starts_of (take_map (empty_node n (s.nodes n).incarnation) s.map).answer) ++ first_started s rs

-- 'Fresh': with no earlier history
unfoldable pub fresh_history : State → ShardInfo → History
fresh_history s i = record {
  commanded = record {
    index = s.map.version;
    senders = λ c. before (session_at s.map.sessions c);
    proposed = λ n. 0;
    turns = [];
  };
  workers = first_started s i.replicas;
  mail = record { count = 0; requests = λ a b. []; replies = []; posted = [] };
}

-- ---- what each event adds to it

-- a command that reached the map
abbrev pub sent_by : Commanded → (index client : ℕ) → Sender → Commanded
sent_by c index client x = record {
  index = index;
  senders = at c.senders client (some x);
  proposed = c.proposed;
  turns = c.turns;
}

abbrev pub promoted : Commanded → Option layout.Request → Commanded
promoted c none = c
promoted c (some r) = sent_by c r.index r.client another

-- proposals that were made, each the next of its node
unfoldable pub proposing : Commanded → List Offer → Commanded
proposing c [] = c
proposing c (o ∷ os) =
    let k = c.proposed o.node in
    proposing (record {
      index = c.index;
      senders = c.senders;
      proposed = at c.proposed o.node (suc k);
      turns = c.turns ++ (record { node = o.node; turn = k } ∷ []);
    }) os

-- a proposal that is under way no more
abbrev pub without : Commanded → (place : ℕ) → Commanded
without c i = record { index = c.index; senders = c.senders; proposed = c.proposed; turns = removed c.turns i }

-- a proposal that reached the map
abbrev pub taken : State → Commanded → (place index : ℕ) → Option Offer → Commanded
taken s c i index none = c
taken s c i index (some o) = sent_by (without c i) index (s.clients o.node) (proposer o.node)

-- a request that a worker's step put under way, if it did
abbrev pub posting : Mail → (node : ℕ) → Key → (epoch peer : ℕ) → List Request → Mail
posting m n k epoch peer [] = m
posting m n k epoch peer (q ∷ qs) = record {
  count = suc m.count;
  requests = at m.requests n (at (m.requests n) peer (m.requests n peer ++ (m.count ∷ [])));
  replies = m.replies;
  posted = record { node = n; key = k; epoch = epoch; peer = peer; number = m.count } ∷ m.posted;
}

-- a request that is under way no more
abbrev pub without_request : Mail → (from to place : ℕ) → Mail
without_request m from to i = record {
  count = m.count;
  requests = at m.requests from (at (m.requests from) to (removed (m.requests from to) i));
  replies = m.replies;
  posted = m.posted;
}

-- request 2.3: a request that comes once more is the one that it was
abbrev pub request_again : Mail → (from to : ℕ) → Option ℕ → Mail
request_again m from to none = m
request_again m from to (some k) = record {
  count = m.count;
  requests = at m.requests from (at (m.requests from) to (m.requests from to ++ (k ∷ [])));
  replies = m.replies;
  posted = m.posted;
}

-- a reply to the request of a number, if there is one
abbrev pub replying : Mail → Option ℕ → List Reply → Mail
replying m none qs = m
replying m (some k) [] = m
replying m (some k) (q ∷ qs) = record { count = m.count; requests = m.requests; replies = m.replies ++ (k ∷ []); posted = m.posted }

-- a reply that is under way no more
abbrev pub without_reply : Mail → (place : ℕ) → Mail
without_reply m i = record { count = m.count; requests = m.requests; replies = removed m.replies i; posted = m.posted }

-- request 2.3: a reply that comes once more answers what it did
abbrev pub reply_again : Mail → Option ℕ → Mail
reply_again m none = m
reply_again m (some k) = record { count = m.count; requests = m.requests; replies = m.replies ++ (k ∷ []); posted = m.posted }

-- the history with another part
abbrev pub set_commanded : History → Commanded → History
set_commanded h c = record { commanded = c; workers = h.workers; mail = h.mail }

abbrev pub set_mail : History → Mail → History
set_mail h m = record { commanded = h.commanded; workers = h.workers; mail = m }

-- the proposals that an event makes: those behind the ones that were under way
unfoldable pub made : State → Event → List Offer
made s e = drop (length s.offers) (step s e).offers

unfoldable pub remember : State → History → Event → History
remember s h (command bytes) = set_commanded h (promoted h.commanded (decode_request bytes))
remember s h (map_shown n fresh) = record {
  commanded = h.commanded;
  workers = h.workers ++ map (started_at n) (starts_of (call_shown (s.nodes n) fresh s.map).answer);
  mail = h.mail;
}
remember s h (lease_granted n i sent lease) = h
remember s h (client_writes n now least bytes) = h
remember s h (client_searches n now room bytes) = h
remember s h (node_waits i now timeout) = set_commanded h (proposing h.commanded (made s (node_waits i now timeout)))
remember s h (worker_steps n k epoch peer metric room) =
    set_mail h
    (posting h.mail n k epoch peer
    (drop (length (s.requests n peer)) ((step s (worker_steps n k epoch peer metric room)).requests n peer)))
remember s h (request_arrives from to i) =
    set_mail h
    (replying (without_request h.mail from to i) (nth (h.mail.requests from to) i)
    (drop (length s.replies) (step s (request_arrives from to i)).replies))
remember s h (request_lost from to i) = set_mail h (without_request h.mail from to i)
remember s h (request_repeats from to i) = set_mail h (request_again h.mail from to (nth (h.mail.requests from to) i))
remember s h (reply_arrives i) = record {
  commanded = proposing h.commanded (made s (reply_arrives i));
  workers = h.workers;
  mail = without_reply h.mail i;
}
remember s h (reply_lost i) = set_mail h (without_reply h.mail i)
remember s h (reply_repeats i) = set_mail h (reply_again h.mail (nth h.mail.replies i))
remember s h (offer_arrives i index seq) = set_commanded h (taken s h.commanded i index (nth s.offers i))
remember s h (offer_lost i) = set_commanded h (without h.commanded i)
remember s h (offer_times_out i) = h
remember s h (outcome_arrives i) = h
remember s h (outcome_lost i) = h
remember s h (outcome_times_out i) = h

-- ---- the rules

-- what an event speaks of is there
abbrev pub is_there : {A : Type 0} → Option A → Bool
is_there none = false
is_there (some x) = true

-- 'Commands': Promote comes under its sender's own client number, which is no node's
abbrev pub no_nodes : Option Sender → Bool
no_nodes none = true
no_nodes (some (proposer n)) = false
no_nodes (some another) = true

-- 'Commands': a proposal comes under its node's one client number, which is nobody else's
abbrev pub own_of : ℕ → Option Sender → Bool
own_of n none = true
own_of n (some (proposer m)) = eqb m n
own_of n (some another) = false

-- 'Commands': only Promote; indexes rise
abbrev pub promotes : Commanded → Option layout.Request → Bool
promotes c none = false
promotes c (some r) = is_promote r.command and ltb c.index r.index and no_nodes (c.senders r.client)

-- the seqs of a node's proposals, in the order in which it makes them
abbrev pub Seqs : Type 0
Seqs = (node turn : ℕ) → ℕ

-- 'rising seq'
abbrev pub Rising : Seqs → Type 0
Rising q = (n k : ℕ) → q n k < q n (suc k)

-- 'Commands': a proposal has the seq that its node gave it; indexes rise
abbrev pub proposes : Seqs → State → Commanded → (index seq : ℕ) → Option Offer → Option Turn → Bool
proposes q s c index seq none t = false
proposes q s c index seq (some o) none = false
proposes q s c index seq (some o) (some t) =
    ltb c.index index and own_of o.node (c.senders (s.clients o.node)) and eqb seq (q o.node t.turn)

-- 'At a node': a step is one of a worker that was started, with its metric
abbrev pub same_metric : Metric → Metric → Bool
same_metric Euclidean Euclidean = true
same_metric Euclidean Angular = false
same_metric Angular Euclidean = false
same_metric Angular Angular = true

abbrev pub is_worker : (node : ℕ) → Key → (epoch peer : ℕ) → Metric → Started → Bool
is_worker n k epoch peer metric w =
    eqb w.node n and eqb w.worker.peer.0 peer and same_key w.worker.key k and eqb w.worker.epoch epoch
    and same_metric w.worker.metric metric

abbrev pub is_post : Reply → Posted → Bool
is_post q p = eqb p.node q.node and eqb p.peer q.peer and same_key p.key q.key and eqb p.epoch q.epoch

abbrev pub is_request : ℕ → Option Posted → Bool
is_request k none = false
is_request k (some p) = eqb p.number k

-- 'Messages': a reply counts only for its worker's latest request
abbrev pub counts : Mail → Option Reply → Option ℕ → Bool
counts m none k = false
counts m (some q) none = false
counts m (some q) (some k) = is_request k (find (is_post q) m.posted)

-- 'Commands': a timeout is the outcome of a proposal that is awaited
abbrev pub is_awaited : Option Offer → Bool
is_awaited none = false
is_awaited (some o) = o.awaited

-- 'Rules of a run': whether an event may happen
unfoldable pub paper : Seqs → State → History → Event → Bool
paper q s h (command bytes) = is_bytes bytes and promotes h.commanded (decode_request bytes)
paper q s h (map_shown n fresh) = true
paper q s h (lease_granted n i sent lease) = true
paper q s h (client_writes n now least bytes) = is_bytes bytes
paper q s h (client_searches n now room bytes) = is_bytes bytes
-- 'a Write which that node accepted'
paper q s h (node_waits i now timeout) = is_there (nth s.accepted i)
paper q s h (worker_steps n k epoch peer metric room) = any (is_worker n k epoch peer metric) h.workers
-- request 2.3: messages between nodes change their order, and repeat
paper q s h (request_arrives from to i) = is_there (nth (s.requests from to) i)
paper q s h (request_lost from to i) = is_there (nth (s.requests from to) i)
paper q s h (request_repeats from to i) = is_there (nth (s.requests from to) i)
paper q s h (reply_arrives i) = counts h.mail (nth s.replies i) (nth h.mail.replies i)
paper q s h (reply_lost i) = is_there (nth s.replies i)
paper q s h (reply_repeats i) = is_there (nth s.replies i)
paper q s h (offer_arrives i index seq) =
    is_u64 index and is_u64 seq and proposes q s h.commanded index seq (nth s.offers i) (nth h.commanded.turns i)
paper q s h (offer_lost i) = is_there (nth s.offers i)
paper q s h (offer_times_out i) = is_awaited (nth s.offers i)
paper q s h (outcome_arrives i) = is_there (nth s.outcomes i)
paper q s h (outcome_lost i) = is_there (nth s.outcomes i)
paper q s h (outcome_times_out i) = is_there (nth s.outcomes i)

-- 'Rules of a run': a list of events, each of which may happen when its turn comes
unfoldable pub paper_run : Seqs → State → History → List Event → Bool
paper_run q s h [] = true
paper_run q s h (e ∷ es) = paper q s h e and paper_run q (step s e) (remember s h e) es
