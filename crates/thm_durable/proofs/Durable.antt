-- Demand 3, of the calls themselves: in every run of the engine's calls that the rules allow, from every engine that is read as fresh, each
-- acknowledged write stands in the log of every node that the map lists in sync, with its offset and its operation, and that node's
-- vectors are its log played from the start. Request 2.5 too: entries of equal offset and epoch are equal, and every entry is a Write that
-- was accepted in its epoch. Assumes nothing.
use mathlib.Core.Path.{◌≡◌, refl, sym, ap, subst, ◌∙◌}
use mathlib.Core.Bool.{true, false}
use mathlib.Core.List.{List, [], ◌∷◌}
use mathlib.Core.Option.{Option, none, some}
use Prim.Native.Nat.{ℕ}
use Rattle.spec.specs.Lists.{nth}
use Rattle.spec_run.specs.State.{State, Request, Reply, Offer, Outcome, set_requests, set_replies, set_offers, set_outcomes}
use Rattle.spec_run.specs.Event.{
  Event,
  command,
  map_shown,
  lease_granted,
  client_writes,
  client_searches,
  node_waits,
  worker_steps,
  request_arrives,
  request_lost,
  request_repeats,
  reply_arrives,
  reply_lost,
  reply_repeats,
  offer_arrives,
  offer_lost,
  offer_times_out,
  outcome_arrives,
  outcome_lost,
  outcome_times_out,
}
use Rattle.spec_run.specs.Rules.{allowed, allowed_run}
use Rattle.spec_run.specs.Step.{step, run, on_request_lost, doubled, on_request_repeats, on_reply_lost, reply_doubled, on_reply_repeats, on_offer_lost, given_up, on_offer_timeout, on_outcome_lost, late, on_outcome_timeout}
use Rattle.spec_run.specs.Fresh.{Fresh}
use Rattle.spec_run.specs.Claim.{Durable, Alike, Written}
use Rattle.thm_run.proofs.Demand3 as model
use Rattle.thm_run.proofs.Entries as entries
use Rattle.thm_durable.specs.Engine.{Engine, seen, host}
use Rattle.thm_durable.specs.Calls.{Called, Calls}
use Rattle.thm_durable.proofs.Simulated.{Simulated, nothing, one, then}
use Rattle.thm_durable.proofs.Seen.{Beside, hosted}
use Rattle.thm_durable.proofs.OnMap.{told-beside, on_command_lem, on_offer_lem}
use Rattle.thm_durable.proofs.OnNode.{on-shown, on-grant, on_wait_lem, on-reply, on-outcome}
use Rattle.thm_durable.proofs.OnArrivals.{on-arrival}
use Rattle.thm_durable.proofs.OnClients.{on-write, on_search_lem}
use Rattle.thm_durable.proofs.OnWorkers.{on_work_lem}

-- ---- what is no call

pub given-beside : (s : State) (i : ℕ) (o : Option Offer) → Beside s (given_up s i o)
unfolding given_up set_offers
given-beside s i none = record { map = refl; nodes = refl; clients = refl }
given-beside s i (some o) = let b = told-beside s o false in record { map = b.map; nodes = b.nodes; clients = b.clients }

pub doubled-beside : (s : State) (from to : ℕ) (o : Option Request) → Beside s (doubled s from to o)
unfolding doubled set_requests
doubled-beside s from to none = record { map = refl; nodes = refl; clients = refl }
doubled-beside s from to (some q) = record { map = refl; nodes = refl; clients = refl }

pub reply_doubled_beside : (s : State) (o : Option Reply) → Beside s (reply_doubled s o)
unfolding reply_doubled set_replies
reply_doubled_beside s none = record { map = refl; nodes = refl; clients = refl }
reply_doubled_beside s (some q) = record { map = refl; nodes = refl; clients = refl }

pub late-beside : (s : State) (i : ℕ) (o : Option Outcome) → Beside s (late s i o)
unfolding late set_outcomes
late-beside s i none = record { map = refl; nodes = refl; clients = refl }
late-beside s i (some o) = record { map = refl; nodes = refl; clients = refl }

module _ (e f : Engine) where
  -- an event that is the host's alone
  beside : (v : Event) (deed : State → State) → allowed (seen e) v ≡ true → step (seen e) v ≡ deed (seen e) → Beside (seen e) (deed (seen e))
      → f ≡ host e deed → Simulated (seen e) (seen f)
  beside v deed may d b q = one (seen e) (seen f) v may (d ∙ sym (ap seen q ∙ hosted e deed b))

  -- every event of the engine is a run of `spec_run`: the same event, or, where the lent test refused a call, one that does without it
  pub simulated : (v : Event) → allowed (seen e) v ≡ true → Called e v f → Simulated (seen e) (seen f)
  unfolding step Called on_request_lost on_request_repeats on_reply_lost on_reply_repeats on_offer_lost on_outcome_lost on_offer_timeout on_outcome_timeout set_requests set_replies set_offers set_outcomes
  simulated (command m) may c = on_command_lem e f m may c
  simulated (map_shown n fresh) may c = on-shown e f n fresh may c
  simulated (lease_granted n i sent lease) may c = on-grant e f n i sent lease may c
  simulated (client_writes n now least m) may c = on-write e f n now least m may c
  simulated (client_searches n now space m) may c = on_search_lem e f n now space m c
  simulated (node_waits i now timeout) may c = on_wait_lem e f i now timeout may c
  simulated (worker_steps n k epoch peer metric space) may c = on_work_lem e f n k epoch peer metric space may c
  simulated (request_arrives from to i) may c = on-arrival e f from to i may c
  simulated (request_lost from to i) may c =
      beside (request_lost from to i) (λ s. on_request_lost s from to i) may refl (record { map = refl; nodes = refl; clients = refl }) c
  simulated (request_repeats from to i) may c =
      beside (request_repeats from to i) (λ s. on_request_repeats s from to i) may refl (doubled-beside (seen e) from to (nth ((seen e).requests from to) i)) c
  simulated (reply_arrives i) may c = on-reply e f i may c
  simulated (reply_lost i) may c =
      beside (reply_lost i) (λ s. on_reply_lost s i) may refl (record { map = refl; nodes = refl; clients = refl }) c
  simulated (reply_repeats i) may c =
      beside (reply_repeats i) (λ s. on_reply_repeats s i) may refl (reply_doubled_beside (seen e) (nth (seen e).replies i)) c
  simulated (offer_arrives i index seq) may c = on_offer_lem e f i index seq may c
  simulated (offer_lost i) may c =
      beside (offer_lost i) (λ s. on_offer_lost s i) may refl (record { map = refl; nodes = refl; clients = refl }) c
  simulated (offer_times_out i) may c =
      beside (offer_times_out i) (λ s. on_offer_timeout s i) may refl (given-beside (seen e) i (nth (seen e).offers i)) c
  simulated (outcome_arrives i) may c = on-outcome e f i may c
  simulated (outcome_lost i) may c =
      beside (outcome_lost i) (λ s. on_outcome_lost s i) may refl (record { map = refl; nodes = refl; clients = refl }) c
  simulated (outcome_times_out i) may c =
      beside (outcome_times_out i) (λ s. on_outcome_timeout s i) may refl (late-beside (seen e) i (nth (seen e).outcomes i)) c

-- ---- the run

pub runs : (e f : Engine) (vs : List Event) → Calls e vs f → Simulated (seen e) (seen f)
unfolding Calls
runs e f [] c = nothing (seen e) (seen f) (sym (ap seen c))
runs e f (v ∷ vs) c =
    let g = c.0 in
    then (seen e) (seen g) (seen f) (simulated e g v c.1 c.2) (runs g f vs c.3)

-- what every run of `spec_run` leaves, a run of the calls leaves
module _ (e f : Engine) (vs : List Event) (fresh : Fresh (seen e)) (c : Calls e vs f) where
  left : (P : State → Type 0) → ((es : List Event) → allowed_run (seen e) es ≡ true → P (run (seen e) es)) → P (seen f)
  left P g = let r = runs e f vs c in subst P r.ends (g r.events r.may)

  -- demand 3
  pub durable : Durable (seen f)
  durable = left Durable (model.durable (seen e) fresh)

  -- request 2.5
  pub alike : Alike (seen f)
  alike = left Alike (entries.alike (seen e) fresh)

  pub written : Written (seen f)
  written = left Written (entries.written (seen e) fresh)
