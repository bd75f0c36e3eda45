-- The clauses where only some of what they read has changed: the history grows, or one node's role is replaced. Assumes nothing.
use Prim.Native.Nat.{ℕ, zero, suc, ◌+◌, ◌≤◌, ◌<◌}
use mathlib.Core.Path.{◌≡◌, refl, sym, ap, ◌∙◌, subst}
use mathlib.Core.Bool.{Bool, true, false, cond}
use mathlib.Core.List.{List, [], ◌∷◌, ◌++◌}
use mathlib.Core.Option.{Option, none, some}
use native.Mathlib.Omega.{arith}
use lib.Dec.{eqb, leb}
use lib.ListN.{length}
use borrow.Author.Tests.{eqb-true, eqb-false}
use Rattle.spec.specs.Lists.{nth}
use Rattle.spec.specs.Log.{Entry, Log, End, entry_at}
use Rattle.spec_laws.proofs.Lists.{by-test, not_both, none_some, some_same, nth-same, nth_lt, lt_nth, Within}
use Rattle.thm_run.proofs.Protocol.Base.{All, all_map, upd, upd-all, upd_same, upd_other, upd-keeps, same_or}
use Rattle.thm_run.proofs.Protocol.Sets.{In}
use Rattle.thm_run.proofs.Protocol.State.{Map, Lead, Role, backup, lead, Node, Request, align, send, Answer, adopts, stores, stale_align, stale_send, Reply, Proposal, Outcome, Accepted, Acknowledged, State, set_node, set_proposals, set_outcomes, lead_at, with_role}
use Rattle.thm_run.proofs.Protocol.Ghost.{History, Agree}
use Rattle.thm_run.proofs.Protocol.Inv.{BookOk, LeadOk, RoleOk, NodeOk, Leading, MapOk, At, RequestOk, AnswerOk, ReplyOk, ProposalOk, OutcomeOk, AcceptedOk, AcknowledgedOk, WayOk, TokensOk, Took, CoverOk, Clauses}

-- what a role's record of an epoch is
pub is-lead : (r : Role) (e : ℕ) (l : Lead) → lead_at r e ≡ some l → (r ≡ lead l) × (l.epoch ≡ e)
unfolding lead_at
is-lead backup e l = λ q. none_some q
is-lead (lead l') e l =
    by-test (λ v. v ≡ some l → (lead l' ≡ lead l) × (l.epoch ≡ e)) (eqb l'.epoch e)
    (λ t q. let u : l' ≡ l = some_same q in (ap lead u, ap (λ (z : Lead). z.epoch) (sym u) ∙ eqb-true l'.epoch e t))
    (λ t q. none_some q)

pub not_lead : (r : Role) (e : ℕ) → lead_at r e ≡ none → (l : Lead) → r ≡ lead l → l.epoch ≡ e → ⊥
unfolding lead_at
not_lead backup e = λ q l p w. let z : ◌≡◌ {A = ℕ} 0 1 = cc in omega arith
not_lead (lead l') e =
    by-test (λ v. v ≡ none → (l : Lead) → lead l' ≡ lead l → l.epoch ≡ e → ⊥) (eqb l'.epoch e)
    (λ t q l p w. none_some (sym q))
    (λ t q l p w. let u : l' ≡ l = cc in eqb-false l'.epoch e t (ap (λ (z : Lead). z.epoch) u ∙ w))

pub lead-same : (x y : Lead) → lead x ≡ lead y → x ≡ y
lead-same x y q = cc

-- a prefix has its entries at their offsets
pub at-within : (l m : Log) (o : ℕ) (x : Entry) → Within l m → entry_at l o ≡ some x → entry_at m o ≡ some x
unfolding entry_at
at-within l m zero x w q = none_some q
at-within l m (suc i) x w q = w i x q

-- logs that agree
pub agree_sym : (o : ℕ) (x y : Log) → Agree o x y → Agree o y x
agree_sym o x y a i lt = let f = a i lt in (f.0, f.2, f.1)

pub agree_trans : (o : ℕ) (x y z : Log) → Agree o x y → Agree o y z → Agree o x z
agree_trans o x y z a b i lt =
    let f = a i lt in
    let g = b i lt in
    (f.0, f.1, g.2 ∙ ap some (nth-same y i g.0 f.0 g.1 f.2))

pub agree_grow : (o : ℕ) (x y x' y' : Log) → Within x x' → Within y y' → Agree o x y → Agree o x' y'
agree_grow o x y x' y' u v a i lt = let f = a i lt in (f.0, u i f.0 f.1, v i f.0 f.2)

-- two parts of one log agree as far as both go
pub agree_in : (o : ℕ) (x y z : Log) → Within x z → Within y z → o ≤ length x → o ≤ length y → Agree o x y
agree_in o x y z u v p q i lt =
    let f = lt_nth x i (omega arith) in
    let g = lt_nth y i (omega arith) in
    (f.0, f.1, g.1 ∙ ap some (nth-same z i g.0 f.0 (v i g.0 g.1) (u i f.0 f.1)))

-- the history has grown: what has begun stays as it was, or has more
pub record Grown (h h' : History) : Type 0 where
  pub pr : (e : ℕ) → h.st e ≡ true → h'.pr e ≡ h.pr e
  pub st : (e : ℕ) → h.st e ≡ true → h'.st e ≡ true
  pub start : (e : ℕ) → h.st e ≡ true → h'.start e ≡ h.start e
  pub book : (e : ℕ) → Within (h.book e) (h'.book e)
  pub held : (e m : ℕ) → h.held e m ≤ h'.held e m
  pub cmt : (e : ℕ) → h.cmt e ≤ h'.cmt e

pub still : (h : History) → Grown h h
still h = record {
  pr = λ e b. refl;
  st = λ e b. b;
  start = λ e b. refl;
  book = λ e i x q. q;
  held = λ e m. omega arith;
  cmt = λ e. omega arith;
}

module _ (h h' : History) (g : Grown h h') where
  pub request-grown : (a p : ℕ) (r : Request) → RequestOk h.pr h.st h.book h.start a p r
      → RequestOk h'.pr h'.st h'.book h'.start a p r
  request-grown a p (align e end t) c = record {
    begun = g.st e c.begun;
    owner = g.pr e c.begun ∙ c.owner;
    upto = c.upto ∙ ap length (sym (g.start e c.begun));
    table = rw (g.start e c.begun) c.table;
  }
  request-grown a p (send e es) c = record {
    begun = g.st e c.begun;
    owner = g.pr e c.begun ∙ c.owner;
    other = c.other;
    filled = c.filled;
    entries = all_map {P = At (h.book e)} {Q = At (h'.book e)} (λ x q. at-within (h.book e) (h'.book e) x.offset x (g.book e) q) es c.entries;
  }

  module _ (nodes nodes' : ℕ → Node) (top top' : ℕ) (ep : (m : ℕ) → (nodes m).replica.epoch ≤ (nodes' m).replica.epoch) (le : top ≤ top') where
    answer-grown : (held held' e own own' : ℕ) → held ≤ held' → own ≤ own' → (v : Answer) → AnswerOk held e own top v → AnswerOk held' e own' top' v
    answer-grown held held' e own own' p q (adopts t) c = (omega (arith, c.0), omega (arith, c.1))
    answer-grown held held' e own own' p q (stores t) c = (omega (arith, c.0), omega (arith, c.1))
    answer-grown held held' e own own' p q (stale_align x) c = omega (arith, c)
    answer-grown held held' e own own' p q (stale_send x) c = omega (arith, c)

    pub reply-grown : (r : Reply) → ReplyOk h nodes top r → ReplyOk h' nodes' top' r
    reply-grown r c =
        answer-grown (h.held r.epoch r.peer) (h'.held r.epoch r.peer) r.epoch (nodes r.peer).replica.epoch (nodes' r.peer).replica.epoch
        (g.held r.epoch r.peer) (ep r.peer) r.answer c

    pub proposal_grown : (v : Proposal) → ProposalOk h nodes v → ProposalOk h' nodes' v
    proposal_grown v c = record {
      begun = g.st v.epoch c.begun;
      caught = λ q. rw (g.start v.epoch c.begun) (omega (arith, c.caught q, g.held v.epoch v.peer));
      reached = λ q. omega (arith, c.reached q, ep v.peer);
    }

    pub way_grown : (requests : ℕ → ℕ → List Request) (replies : List Reply) (proposals : List Proposal) (outcomes : List Outcome)
        (accepted : List Accepted) (acknowledged : List Acknowledged)
        → WayOk h nodes top requests replies proposals outcomes accepted acknowledged
        → WayOk h' nodes' top' requests replies proposals outcomes accepted acknowledged
    way_grown requests replies proposals outcomes accepted acknowledged w = record {
      requests = λ a p. all_map (request-grown a p) (requests a p) (w.requests a p);
      replies = all_map reply-grown replies w.replies;
      proposals = all_map proposal_grown proposals w.proposals;
      outcomes = all_map {P = OutcomeOk h} {Q = OutcomeOk h'} (λ v c. g.st v.epoch c) outcomes w.outcomes;
      accepted = all_map {P = AcceptedOk h} {Q = AcceptedOk h'} (λ v c. at-within (h.book v.epoch) (h'.book v.epoch) v.offset (record { epoch = v.epoch; offset = v.offset; op = v.op }) (g.book v.epoch) c) accepted w.accepted;
      acknowledged = all_map {P = AcknowledgedOk h} {Q = AcknowledgedOk h'}
          (λ v c. record {
            stands = at-within (h.book v.epoch) (h'.book v.epoch) v.offset (record { epoch = v.epoch; offset = v.offset; op = v.op }) (g.book v.epoch) c.stands;
            under = omega (arith, c.under, g.cmt v.epoch);
          })
          acknowledged w.acknowledged;
    }

-- a role where its peers hold more
pub role_more : (n owner : ℕ) (set : List ℕ) (start : Log) (held held' : ℕ → ℕ) (cmt e : ℕ) (r : Role) → ((m : ℕ) → held m ≤ held' m)
    → RoleOk n owner set start held cmt e r → RoleOk n owner set start held' cmt e r
role_more n owner set start held held' cmt e backup le c = tt
role_more n owner set start held held' cmt e (lead l) le c = record {
  epoch = c.epoch;
  high = c.high;
  mine = c.mine;
  end = c.end;
  table = c.table;
  wide = c.wide;
  acked = λ m. omega (arith, c.acked m, le m);
  done = λ m i. omega (arith, c.done m i, le m);
}

-- epochs and logs are as they were
pub cover_same : (h : History) (u v : ℕ → Node) (top : ℕ) → ((m : ℕ) → (v m).replica ≡ (u m).replica) → CoverOk h u top → CoverOk h v top
cover_same h u v top q c = record {
  low = λ e g m a b d i le. c.low e g m a b d i (rw (q m) at le);
  begins = λ e g o a b d t. c.begins e g o a b d (back e o t);
  holds = λ e m o a b i lt t. rw (q m) (c.holds e m o a b i (rw (q m) at lt) (back e o t));
  led = λ e b. rw (q (h.pr e)) (c.led e b);
}
  where
    back : (e o : ℕ) → Took h v e o → Took h u e o
    back e o t x i lt = t x i (rw (q x) lt)

-- the role of n is replaced, and with it the proposals and outcomes under way
module _ (h : History) (s : State) (k : Clauses h s) (n : ℕ) (r : Role) (P : List Proposal) (O : List Outcome) where
  abbrev changed : ℕ → Node
  changed = upd s.nodes n (with_role (s.nodes n) r)

  replica-at : (m : ℕ) → (changed m).replica ≡ (s.nodes m).replica
  unfolding with_role
  replica-at = upd-keeps (λ (z : Node). z.replica) s.nodes n (with_role (s.nodes n) r) refl

  pub rerole : RoleOk n (h.pr (s.nodes n).replica.epoch) (h.ins (s.nodes n).replica.epoch) (h.start (s.nodes n).replica.epoch) (h.held (s.nodes n).replica.epoch) (h.cmt (s.nodes n).replica.epoch) (s.nodes n).replica.epoch r
      → (h.st s.map.epoch ≡ true → s.map.primary ≡ n → (l : Lead) × (r ≡ lead l) × (l.epoch ≡ s.map.epoch))
      → All (ProposalOk h s.nodes) P → All (OutcomeOk h) O
      → TokensOk h.ins P O r → ((m : ℕ) → (m ≡ n → ⊥) → TokensOk h.ins P O (s.nodes m).role)
      → Clauses h (set_outcomes (set_proposals (set_node s n (with_role (s.nodes n) r)) P) O)
  unfolding set_outcomes set_proposals set_node with_role
  rerole ok now ps os mine others =
      let ep : (m : ℕ) → (s.nodes m).replica.epoch ≤ (changed m).replica.epoch = λ m. rw (replica-at m) (omega arith) in
      let w = way_grown h h (still h) s.nodes changed s.map.epoch s.map.epoch ep (omega arith) s.requests s.replies s.proposals s.outcomes s.accepted s.acknowledged k.way in
      record {
        book = k.book;
        nodes = upd-all (NodeOk h)
            (let c = k.nodes n in record { begun = c.begun; within = c.within; whole = c.whole; here = c.here; ahead = c.ahead; played = c.played; role = ok })
            (λ m ne. k.nodes m);
        map = record {
          primary = k.map.primary;
          sync = k.map.sync;
          now = λ b. same_or (Leading changed s.map.primary s.map.epoch) s.map.primary n
              (λ q. let f = now b q in (f.0, rw (q, upd_same s.nodes n (with_role (s.nodes n) r)) f.1, f.2))
              (λ ne. rw (upd_other s.nodes n (with_role (s.nodes n) r) s.map.primary ne) (k.map.now b));
        };
        way = record {
          requests = w.requests;
          replies = w.replies;
          proposals = all_map (proposal_grown h h (still h) s.nodes changed s.map.epoch s.map.epoch ep (omega arith)) P ps;
          outcomes = os;
          accepted = w.accepted;
          acknowledged = w.acknowledged;
        };
        tokens = upd-all (λ m (z : Node). TokensOk h.ins P O z.role) mine others;
        cover = cover_same h s.nodes changed s.map.epoch replica-at k.cover;
      }
