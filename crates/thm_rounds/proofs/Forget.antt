-- Where nothing is under way, the protocol's lists of requests and replies can begin anew: in it both stay for good, and a round reads only
-- its own. Assumes nothing.
use Prim.Native.Nat.{ℕ}
use mathlib.Core.Path.{◌≡◌, sym, subst}
use mathlib.Core.List.{List, []}
use Rattle.spec_run.specs.State as real
use Rattle.thm_run.proofs.Protocol.Base.{All}
use Rattle.thm_run.proofs.Protocol.State.{State}
use Rattle.thm_run.proofs.Protocol.Run.{Inv}
use Rattle.thm_run.proofs.Simulation.Relation.{World, RequestAt, ReplySim, Sim}
use Rattle.thm_rounds.specs.Rounds.{Still}

abbrev pub forget : State → State
forget a = record {
  map = a.map;
  nodes = a.nodes;
  requests = λ b q. [];
  replies = [];
  proposals = a.proposals;
  outcomes = a.outcomes;
  accepted = a.accepted;
  acknowledged = a.acknowledged;
}

pub forget_inv : (a : State) → Inv a → Inv (forget a)
forget_inv a v =
    let k = v.clauses in
    record {
      history = v.history;
      clauses = record {
        book = k.book;
        nodes = k.nodes;
        map = k.map;
        way = record {
          requests = λ b q. tt;
          replies = tt;
          proposals = k.way.proposals;
          outcomes = k.way.outcomes;
          accepted = k.way.accepted;
          acknowledged = k.way.acknowledged;
        };
        tokens = k.tokens;
        cover = k.cover;
      };
      reached = v.reached;
    }

pub forget_sim : (w : World) (s : real.State) (a : State) → Sim w s a → Still s → Sim w s (forget a)
forget_sim w s a k still = record {
  table = k.table;
  nodes = k.nodes;
  clients = k.clients;
  requests = λ from to. subst (All (RequestAt w to [])) (sym (still.requests from to)) tt;
  replies = subst (All (ReplySim w [])) (sym still.replies) tt;
  offers = k.offers;
  offered = k.offered;
  outcomes = k.outcomes;
  told = k.told;
  accepted = k.accepted;
  written = k.written;
  acknowledged = k.acknowledged;
  known = k.known;
}
