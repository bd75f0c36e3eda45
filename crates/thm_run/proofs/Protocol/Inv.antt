-- The invariant of the protocol, but for the order of messages (Order). A clause takes the parts that it reads, so that a move which
-- leaves them leaves it. Definitions only.
use Prim.Native.Nat.{ℕ, zero, suc, ◌+◌, ◌≤◌, ◌<◌}
use mathlib.Core.Path.{◌≡◌}
use mathlib.Core.Bool.{Bool, true, false}
use mathlib.Core.List.{List, []}
use mathlib.Core.Option.{some}
use lib.Dec.{eqb}
use lib.ListN.{length}
use Rattle.spec.specs.Lists.{◌and◌, nth}
use Rattle.spec.specs.Log.{Op, Entry, Log, Vectors, entry_at, epoch_ends, play}
use Rattle.spec_laws.proofs.Lists.{Within}
use Rattle.spec_laws.proofs.Log.Numbered.{Numbered}
use Rattle.thm_run.proofs.Protocol.Base.{All, count}
use Rattle.thm_run.proofs.Protocol.Sets.{In}
use Rattle.thm_run.proofs.Protocol.State.{Map, Lead, Role, backup, lead, Node, Request, align, send, Answer, adopts, stores, stale_align, stale_send, Reply, Proposal, Outcome, Accepted, Acknowledged, State}
use Rattle.thm_run.proofs.Protocol.Ghost.{History, Agree}

-- A. The history itself, up to the map's epoch: each primary is in sync; a log is within its epoch's, numbered, and an entry stands in
-- its own epoch's log too; the in_sync_lem members hold what is acknowledged
abbrev pub BookOk : History → ℕ → Type 0
BookOk h top = record {
  one : 1 ≤ top;
  range : (e : ℕ) → h.st e ≡ true → e ≤ top;
  seat : (e : ℕ) → 1 ≤ e → e ≤ top → In (h.pr e) (h.ins e);
  blank : h.book 0 ≡ [];
  quiet : (e : ℕ) → h.st e ≡ false → h.book e ≡ [];
  begin : (e : ℕ) → Within (h.start e) (h.book e);
  own : (e i : ℕ) (x : Entry) → nth (h.book e) i ≡ some x → nth (h.book x.epoch) i ≡ some x;
  below : (e i : ℕ) (x : Entry) → nth (h.book e) i ≡ some x → x.epoch ≤ e;
  numbered : (e : ℕ) → Numbered (h.book e);
  few : (e m : ℕ) → In m (h.ins e) → h.cmt e ≤ h.held e m;
  real : (e : ℕ) → h.cmt e ≤ length (h.book e);
}

-- B, C3, D1. A primary's record: of its node's epoch, of which that node is the primary; it asks the in_sync_lem members and more
abbrev pub LeadOk : (n owner : ℕ) → List ℕ → Log → (ℕ → ℕ) → (cmt epoch : ℕ) → Lead → Type 0
LeadOk n owner set start held cmt e l = record {
  epoch : l.epoch ≡ e;
  high : 1 ≤ e;
  mine : owner ≡ n;
  end : l.end ≡ length start;
  table : l.table ≡ epoch_ends start;
  wide : (m : ℕ) → In m set → In m l.ack;
  acked : (m : ℕ) → l.acked m ≤ held m;
  done : (m : ℕ) → In m l.ack → cmt ≤ held m;
}

abbrev pub RoleOk : (n owner : ℕ) → List ℕ → Log → (ℕ → ℕ) → (cmt epoch : ℕ) → Role → Type 0
RoleOk n owner set start held cmt e backup = Unit
RoleOk n owner set start held cmt e (lead l) = LeadOk n owner set start held cmt e l

-- B. A node: its epoch has begun, its log is a prefix of that epoch's, its vectors are its log played
abbrev pub NodeAt : History → (n epoch : ℕ) → Log → Vectors → Role → Type 0
NodeAt h n e log vectors r = record {
  begun : h.st e ≡ true;
  within : Within log (h.book e);
  whole : h.pr e ≡ n → length log ≡ length (h.book e);
  here : h.held e n ≡ length log;
  ahead : (d : ℕ) → e < d → h.held d n ≡ 0;
  played : vectors ≡ play log;
  role : RoleOk n (h.pr e) (h.ins e) (h.start e) (h.held e) (h.cmt e) e r;
}

abbrev pub NodeOk : History → ℕ → Node → Type 0
NodeOk h n x = NodeAt h n x.replica.epoch x.replica.log x.replica.vectors x.role

-- A1, B4. The map, and the primary of its epoch once it has been shown that epoch
abbrev pub Leading : (ℕ → Node) → ℕ → ℕ → Type 0
Leading nodes p e = (l : Lead) × ((nodes p).role ≡ lead l) × (l.epoch ≡ e)

abbrev pub MapOk : History → (ℕ → Node) → Map → Type 0
MapOk h nodes m = record {
  primary : h.pr m.epoch ≡ m.primary;
  sync : h.ins m.epoch ≡ m.insync;
  now : h.st m.epoch ≡ true → Leading nodes m.primary m.epoch;
}

-- C1. Requests say what the primary's log says
abbrev pub At : Log → Entry → Type 0
At l x = entry_at l x.offset ≡ some x

abbrev pub RequestOk : (ℕ → ℕ) → (ℕ → Bool) → (ℕ → Log) → (ℕ → Log) → (a p : ℕ) → Request → Type 0
RequestOk pr st book start a p (align e end t) = record {
  begun : st e ≡ true;
  owner : pr e ≡ a;
  upto : end ≡ length (start e);
  table : t ≡ epoch_ends (start e);
}
RequestOk pr st book start a p (send e es) = record {
  begun : st e ≡ true;
  owner : pr e ≡ a;
  other : a ≡ p → ⊥;
  filled : 1 ≤ length es;
  entries : All (At (book e)) es;
}

-- C2. A positive answer tells what the peer holds, or held in that epoch; a stale one an epoch that the map has given
abbrev pub AnswerOk : (held epoch own top : ℕ) → Answer → Type 0
AnswerOk held e own top (adopts t) = (t ≤ held) × (e ≤ own)
AnswerOk held e own top (stores t) = (t ≤ held) × (e ≤ own)
AnswerOk held e own top (stale_align x) = x ≤ top
AnswerOk held e own top (stale_send x) = x ≤ top

abbrev pub ReplyOk : History → (ℕ → Node) → ℕ → Reply → Type 0
ReplyOk h nodes top r = AnswerOk (h.held r.epoch r.peer) r.epoch (nodes r.peer).replica.epoch top r.answer

-- D3. Who is proposed to be taken in held all that its primary began with
abbrev pub ProposalOk : History → (ℕ → Node) → Proposal → Type 0
ProposalOk h nodes v = record {
  begun : h.st v.epoch ≡ true;
  caught : v.expand ≡ true → length (h.start v.epoch) ≤ h.held v.epoch v.peer;
  reached : v.expand ≡ true → v.epoch ≤ (nodes v.peer).replica.epoch;
}

abbrev pub OutcomeOk : History → Outcome → Type 0
OutcomeOk h v = h.st v.epoch ≡ true

-- W. Writes: accepted ones stand in their epoch's log, acknowledged ones below its acknowledged offset
abbrev pub Stands : History → ℕ → ℕ → Op → Type 0
Stands h e o op = entry_at (h.book e) o ≡ some (record { epoch = e; offset = o; op = op })

abbrev pub AcceptedOk : History → Accepted → Type 0
AcceptedOk h w = Stands h w.epoch w.offset w.op

abbrev pub AcknowledgedOk : History → Acknowledged → Type 0
AcknowledgedOk h w = record {
  stands : Stands h w.epoch w.offset w.op;
  under : w.offset ≤ h.cmt w.epoch;
}

-- all that is under way or has been written: facts that stay as the history grows
abbrev pub WayOk : History → (ℕ → Node) → ℕ → (ℕ → ℕ → List Request) → List Reply → List Proposal → List Outcome → List Accepted
    → List Acknowledged → Type 0
WayOk h nodes top requests replies proposals outcomes accepted acknowledged = record {
  requests : (a p : ℕ) → All (RequestOk h.pr h.st h.book h.start a p) (requests a p);
  replies : All (ReplyOk h nodes top) replies;
  proposals : All (ProposalOk h nodes) proposals;
  outcomes : All (OutcomeOk h) outcomes;
  accepted : All (AcceptedOk h) accepted;
  acknowledged : All (AcknowledgedOk h) acknowledged;
}

-- D2. Tokens of a peer in an epoch: Expand proposals and applied Shrink outcomes under way. While the primary of that epoch has its
-- record, there is at most one; and then the peer is out of the in_sync_lem set and in the ack set
unfoldable pub expands : (p e : ℕ) → Proposal → Bool
expands p e v = v.expand and eqb v.peer p and eqb v.epoch e

unfoldable pub shrinks : (p e : ℕ) → Outcome → Bool
shrinks p e v = eqb v.peer p and eqb v.epoch e

unfoldable pub tokens : (p e : ℕ) → List Proposal → List Outcome → ℕ
tokens p e proposals outcomes = count (expands p e) proposals + count (shrinks p e) outcomes

abbrev pub TokenOk : List ℕ → List ℕ → (p n : ℕ) → Type 0
TokenOk set ack p n = record {
  single : n ≤ 1;
  out : 1 ≤ n → In p set → ⊥;
  listed : 1 ≤ n → In p ack;
}

abbrev pub TokensOk : (ℕ → List ℕ) → List Proposal → List Outcome → Role → Type 0
TokensOk ins proposals outcomes backup = Unit
TokensOk ins proposals outcomes (lead l) = (p : ℕ) → TokenOk (ins l.epoch) l.ack p (tokens p l.epoch proposals outcomes)

-- S. The members of an epoch's last in_sync_lem set that have left it all took o entries of it along
abbrev pub Took : History → (ℕ → Node) → ℕ → ℕ → Type 0
Took h nodes e o = (x : ℕ) → In x (h.ins e) → e < (nodes x).replica.epoch → o ≤ h.held e x

-- then later primaries began with these entries, and the nodes in sync that have left the epoch hold them. Who began an epoch has reached it
abbrev pub CoverOk : History → (ℕ → Node) → ℕ → Type 0
CoverOk h nodes top = record {
  low : (e g m : ℕ) → 1 ≤ e → e < g → g ≤ top → In m (h.ins g) → (nodes m).replica.epoch ≤ e → In m (h.ins e);
  begins : (e g o : ℕ) → 1 ≤ e → e < g → h.st g ≡ true → Took h nodes e o → Agree o (h.book e) (h.start g);
  holds : (e m o : ℕ) → 1 ≤ e → e < top → In m (h.ins top) → e < (nodes m).replica.epoch → Took h nodes e o
      → Agree o (h.book e) (nodes m).replica.log;
  led : (e : ℕ) → h.st e ≡ true → e ≤ (nodes (h.pr e)).replica.epoch;
}

pub record Clauses (h : History) (s : State) : Type 0 where
  pub book : BookOk h s.map.epoch
  pub nodes : (n : ℕ) → NodeOk h n (s.nodes n)
  pub map : MapOk h s.nodes s.map
  pub way :
      WayOk h s.nodes s.map.epoch s.requests s.replies s.proposals s.outcomes s.accepted s.acknowledged
  pub tokens : (n : ℕ) → TokensOk h.ins s.proposals s.outcomes (s.nodes n).role
  pub cover : CoverOk h s.nodes s.map.epoch
