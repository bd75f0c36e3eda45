-- The relation after one part of the two states changes: all the other parts are as they were. Assumes nothing.
use Prim.Native.Nat.{ℕ, ◌+◌}
use mathlib.Core.Path.{◌≡◌, refl, sym, ap, ◌∙◌, subst}
use mathlib.Core.Bool.{true}
use mathlib.Core.List.{List, [], ◌∷◌, ◌++◌, map}
use Rattle.spec.specs.Lists.{collect}
use Rattle.spec.specs.Map.Change.{holds}
use Rattle.spec.specs.Map.Tables as tables
use Rattle.spec.specs.Node.Held as held
use lib.ListN.{length}
use Rattle.spec_laws.proofs.Lists.{nth_lt, nth-append, nth_last}
use Rattle.spec_run.specs.State as real
use Rattle.thm_run.proofs.Protocol.Base.{All, all_map, all_snoc}
use Rattle.thm_run.proofs.Protocol.State as proto
use Rattle.thm_run.proofs.Protocol.State.{Map, Node, Request, Reply, Proposal, Outcome, State, Move, promotion, decision, rejection, outcome, silence, showing, writing, alignment, batch, arrival, counting, joining, suspicion, waiting}
use Rattle.thm_run.proofs.Simulation.Lists.{pair-all, one-all, pair2_all, map_join}
use Rattle.thm_run.proofs.Simulation.Relation.{World, MapSim, NodeSim, RequestSim, RequestAt, ReplySim, OfferFits, OutcomeKey, WriteKey, proposal_of, shrinks, outcome_of, accepted_of, acknowledged_of, Sim}

-- the protocol gets to a state that is this one
abbrev pub Reaches : World → real.State → State → Type 0
Reaches w s a = (ms : List Move) × Sim w s (proto.run a ms)

pub stays : (w : World) (s : real.State) (a : State) → Sim w s a → Reaches w s a
unfolding proto.run
stays w s a k = ([], k)

pub moves : (w : World) (s : real.State) (a : State) (v : Move) → Sim w s (proto.step a v) → Reaches w s a
unfolding proto.run
moves w s a v k = (v ∷ [], k)

-- a move after which no node leads anew and none has written: requests go between holders alone
abbrev pub Gentle : World → Move → Type 0
Gentle w (promotion n) = ⊥
Gentle w (decision i told) = Unit
Gentle w (rejection i) = Unit
Gentle w (outcome i) = Unit
Gentle w (silence i) = Unit
Gentle w (showing n) = ⊥
Gentle w (writing n op) = ⊥
Gentle w (alignment n p) = (holds n w.holders ≡ true) × (holds p w.holders ≡ true)
Gentle w (batch n p from size) = (holds n w.holders ≡ true) × (holds p w.holders ≡ true)
Gentle w (arrival n p i) = Unit
Gentle w (counting i) = Unit
Gentle w (joining i) = Unit
Gentle w (suspicion n p) = Unit
Gentle w (waiting i) = Unit

-- the protocol gets there by such moves
abbrev pub Gently : World → real.State → State → Type 0
Gently w s a = (ms : List Move) × All (Gentle w) ms × Sim w s (proto.run a ms)

pub rests : (w : World) (s : real.State) (a : State) → Sim w s a → Gently w s a
unfolding proto.run
rests w s a k = ([], tt, k)

pub gently : (w : World) (s : real.State) (a : State) (v : Move) → Gentle w v → Sim w s (proto.step a v) → Gently w s a
unfolding proto.run
gently w s a v g k = (v ∷ [], (g, tt), k)

pub then_gently : (w : World) (s : real.State) (a : State) (v : Move) → Gentle w v → Gently w s (proto.step a v) → Gently w s a
unfolding proto.run
then_gently w s a v g r = (v ∷ r.0, (g, r.1), r.2)

pub reaches : (w : World) (s : real.State) (a : State) → Gently w s a → Reaches w s a
reaches w s a r = (r.0, r.2)

module _ (w : World) (s : real.State) (a : State) (k : Sim w s a) where
  abbrev top : ℕ
  top = a.map.epoch

  -- ---- nodes

  pub on-nodes : (n : ℕ) (x : held.Node) (b : Node) → NodeSim w top n x b → Sim w (real.set_node s n x) (proto.set_node a n b)
  unfolding real.set_node proto.set_node
  on-nodes n x b h = record {
    table = k.table;
    nodes = pair-all (λ m v u. NodeSim w top m v u) h k.nodes;
    clients = k.clients;
    requests = k.requests;
    replies = k.replies;
    offers = k.offers;
    offered = k.offered;
    outcomes = k.outcomes;
    told = k.told;
    accepted = k.accepted;
    written = k.written;
    acknowledged = k.acknowledged;
    known = k.known;
  }

  pub on-node : (n : ℕ) (x : held.Node) → NodeSim w top n x (a.nodes n) → Sim w (real.set_node s n x) a
  unfolding real.set_node
  on-node n x h = record {
    table = k.table;
    nodes = one-all (λ m v. NodeSim w top m v (a.nodes m)) h k.nodes;
    clients = k.clients;
    requests = k.requests;
    replies = k.replies;
    offers = k.offers;
    offered = k.offered;
    outcomes = k.outcomes;
    told = k.told;
    accepted = k.accepted;
    written = k.written;
    acknowledged = k.acknowledged;
    known = k.known;
  }

  -- ---- links

  pub on_requests : (from to : ℕ) (l : List real.Request) → All (RequestAt w to (a.requests from to)) l → Sim w (real.set_requests s from to l) a
  unfolding real.set_requests
  on_requests from to l h = record {
    table = k.table;
    nodes = k.nodes;
    clients = k.clients;
    requests = one-all (λ c (u : ℕ → List real.Request). (d : ℕ) → All (RequestAt w d (a.requests c d)) (u d))
        (one-all (λ d (u : List real.Request). All (RequestAt w d (a.requests from d)) u) h (k.requests from)) k.requests;
    replies = k.replies;
    offers = k.offers;
    offered = k.offered;
    outcomes = k.outcomes;
    told = k.told;
    accepted = k.accepted;
    written = k.written;
    acknowledged = k.acknowledged;
    known = k.known;
  }

  stays_at : (to : ℕ) (rs : List Request) (r : Request) (q : real.Request) → RequestAt w to rs q → RequestAt w to (rs ++ (r ∷ [])) q
  stays_at to rs r q h = record {
    place = h.place;
    request = h.request;
    found = nth-append rs (r ∷ []) h.place (nth_lt rs h.place _ h.found) ∙ h.found;
    like = h.like;
  }

  pub on_post : (from to : ℕ) (q : real.Request) (r : Request) → RequestSim w to q r
      → Sim w (real.set_requests s from to (s.requests from to ++ (q ∷ []))) (proto.post a from to r)
  unfolding real.set_requests proto.post proto.set_requests
  on_post from to q r h = record {
    table = k.table;
    nodes = k.nodes;
    clients = k.clients;
    requests = pair2_all (λ c d u v. All (RequestAt w d v) u)
        (all_snoc (RequestAt w to (a.requests from to ++ (r ∷ []))) (s.requests from to) q
        (all_map (stays_at to (a.requests from to) r) (s.requests from to) (k.requests from to))
        (record { place = length (a.requests from to); request = r; found = nth_last (a.requests from to) r; like = h }))
        k.requests;
    replies = k.replies;
    offers = k.offers;
    offered = k.offered;
    outcomes = k.outcomes;
    told = k.told;
    accepted = k.accepted;
    written = k.written;
    acknowledged = k.acknowledged;
    known = k.known;
  }

  -- ---- replies

  pub on-replies : (l : List real.Reply) → All (ReplySim w a.replies) l → Sim w (real.set_replies s l) a
  unfolding real.set_replies
  on-replies l h = record {
    table = k.table;
    nodes = k.nodes;
    clients = k.clients;
    requests = k.requests;
    replies = h;
    offers = k.offers;
    offered = k.offered;
    outcomes = k.outcomes;
    told = k.told;
    accepted = k.accepted;
    written = k.written;
    acknowledged = k.acknowledged;
    known = k.known;
  }

  later : (r : Reply) (q : real.Reply) → ReplySim w a.replies q → ReplySim w (a.replies ++ (r ∷ [])) q
  later r q h = record {
    place = h.place;
    answer = h.answer;
    found = nth-append a.replies (r ∷ []) h.place (nth_lt a.replies h.place _ h.found) ∙ h.found;
    key = h.key;
    message = h.message;
    decoded = h.decoded;
    deed = h.deed;
  }

  -- an answer that nobody here knows of, and its concrete one
  pub on-answer : (r : Reply) → Sim w s (proto.add_reply a r)
  unfolding proto.add_reply
  on-answer r = record {
    table = k.table;
    nodes = k.nodes;
    clients = k.clients;
    requests = k.requests;
    replies = all_map (later r) s.replies k.replies;
    offers = k.offers;
    offered = k.offered;
    outcomes = k.outcomes;
    told = k.told;
    accepted = k.accepted;
    written = k.written;
    acknowledged = k.acknowledged;
    known = k.known;
  }

  -- ---- proposals and outcomes

  pub on_offers : (l : List real.Offer) (m : List Proposal) → map (proposal_of w) l ≡ m → All (OfferFits w top) l
      → Sim w (real.set_offers s l) (proto.set_proposals a m)
  unfolding real.set_offers proto.set_proposals
  on_offers l m e f = record {
    table = k.table;
    nodes = k.nodes;
    clients = k.clients;
    requests = k.requests;
    replies = k.replies;
    offers = e;
    offered = f;
    outcomes = k.outcomes;
    told = k.told;
    accepted = k.accepted;
    written = k.written;
    acknowledged = k.acknowledged;
    known = k.known;
  }

  pub same_offers : (l : List real.Offer) → map (proposal_of w) l ≡ a.proposals → All (OfferFits w top) l → Sim w (real.set_offers s l) a
  unfolding proto.set_proposals
  same_offers l e f = on_offers l a.proposals e f

  pub on_outcomes : (l : List real.Outcome) (m : List Outcome) → collect (shrinks w) (outcome_of w) l ≡ m → All (OutcomeKey w) l
      → Sim w (real.set_outcomes s l) (proto.set_outcomes a m)
  unfolding real.set_outcomes proto.set_outcomes
  on_outcomes l m e f = record {
    table = k.table;
    nodes = k.nodes;
    clients = k.clients;
    requests = k.requests;
    replies = k.replies;
    offers = k.offers;
    offered = k.offered;
    outcomes = e;
    told = f;
    accepted = k.accepted;
    written = k.written;
    acknowledged = k.acknowledged;
    known = k.known;
  }

  pub same_outcomes : (l : List real.Outcome) → collect (shrinks w) (outcome_of w) l ≡ a.outcomes → All (OutcomeKey w) l
      → Sim w (real.set_outcomes s l) a
  unfolding proto.set_outcomes
  same_outcomes l e f = on_outcomes l a.outcomes e f

  -- ---- writes

  pub on-accepted : (v : real.Write) → WriteKey w v
      → Sim w (real.set_writes s (s.accepted ++ (v ∷ [])) s.acknowledged) (proto.add_accepted a (accepted_of w v))
  unfolding real.set_writes proto.add_accepted
  on-accepted v e = record {
    table = k.table;
    nodes = k.nodes;
    clients = k.clients;
    requests = k.requests;
    replies = k.replies;
    offers = k.offers;
    offered = k.offered;
    outcomes = k.outcomes;
    told = k.told;
    accepted = map_join (accepted_of w) s.accepted (v ∷ []) ∙ ap (λ (z : List proto.Accepted). z ++ (accepted_of w v ∷ [])) k.accepted;
    written = all_snoc (WriteKey w) s.accepted v k.written e;
    acknowledged = k.acknowledged;
    known = k.known;
  }

  pub on_acknowledged : (v : real.Write) → WriteKey w v
      → Sim w (real.set_writes s s.accepted (s.acknowledged ++ (v ∷ []))) (proto.add_acknowledged a (acknowledged_of w v))
  unfolding real.set_writes proto.add_acknowledged
  on_acknowledged v e = record {
    table = k.table;
    nodes = k.nodes;
    clients = k.clients;
    requests = k.requests;
    replies = k.replies;
    offers = k.offers;
    offered = k.offered;
    outcomes = k.outcomes;
    told = k.told;
    accepted = k.accepted;
    written = k.written;
    acknowledged =
        map_join (acknowledged_of w) s.acknowledged (v ∷ [])
        ∙ ap (λ (z : List proto.Acknowledged). z ++ (acknowledged_of w v ∷ [])) k.acknowledged;
    known = all_snoc (WriteKey w) s.acknowledged v k.known e;
  }

  -- ---- the map

  -- a map of the same epoch
  pub on-map : (m : tables.Map) (b : Map) → b.epoch ≡ top → MapSim w m b → Sim w (real.set_map s m) (proto.set_map a b)
  unfolding real.set_map proto.set_map
  on-map m b p h = record {
    table = h;
    nodes = λ n. subst (λ (e : ℕ). NodeSim w e n (s.nodes n) (a.nodes n)) (sym p) (k.nodes n);
    clients = k.clients;
    requests = k.requests;
    replies = k.replies;
    offers = k.offers;
    offered = subst (λ (e : ℕ). All (OfferFits w e) s.offers) (sym p) k.offered;
    outcomes = k.outcomes;
    told = k.told;
    accepted = k.accepted;
    written = k.written;
    acknowledged = k.acknowledged;
    known = k.known;
  }

  pub same_map : (m : tables.Map) → MapSim w m a.map → Sim w (real.set_map s m) a
  unfolding proto.set_map
  same_map m h = on-map m a.map refl h
