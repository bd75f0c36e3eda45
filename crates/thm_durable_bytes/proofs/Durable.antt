-- Demand 3, of the entry points for C: in every run of their calls that the rules allow, from all images that are read as fresh, each
-- acknowledged write stands in the log of every node that the map lists in sync, with its offset and its operation, and that node's vectors
-- are its log played from the start. Request 2.5 too: entries of equal offset and epoch are equal, and every entry is a Write that was
-- accepted in its epoch. Assumes nothing.
use mathlib.Core.Path.{◌≡◌, refl, sym, ap, subst, ◌∙◌}
use mathlib.Core.Bool.{true}
use mathlib.Core.List.{List, [], ◌∷◌}
use Prim.Native.Nat.{ℕ}
use Rattle.spec.specs.Lists.{nth}
use Rattle.spec_run.specs.State.{State, set_requests, set_replies, set_offers, set_outcomes}
use Rattle.spec_run.specs.Event.{
  Event,
  command,
  map_shown,
  lease_granted,
  client_writes,
  client_searches,
  node_waits,
  worker_steps,
  request_arrives,
  request_lost,
  request_repeats,
  reply_arrives,
  reply_lost,
  reply_repeats,
  offer_arrives,
  offer_lost,
  offer_times_out,
  outcome_arrives,
  outcome_lost,
  outcome_times_out,
}
use Rattle.spec_run.specs.Rules.{allowed, allowed_run}
use Rattle.spec_run.specs.Step.{step, run, on_request_lost, on_request_repeats, on_reply_lost, on_reply_repeats, on_offer_lost, on_offer_timeout, on_outcome_lost, on_outcome_timeout}
use Rattle.spec_run.specs.Fresh.{Fresh}
use Rattle.spec_run.specs.Claim.{Durable, Alike, Written}
use Rattle.thm_run.proofs.Demand3 as model
use Rattle.thm_run.proofs.Entries as entries
use Rattle.thm_durable.proofs.Simulated.{Simulated, nothing, one, then}
use Rattle.thm_durable.proofs.Seen.{Beside}
use Rattle.thm_durable.proofs.Durable.{given-beside, doubled-beside, reply_doubled_beside, late-beside}
use Rattle.thm_durable_bytes.specs.Cluster.{Cluster, seen, InMemory, host}
use Rattle.thm_durable_bytes.specs.Calls.{Called, Calls}
use Rattle.thm_durable_bytes.proofs.Seen.{hosted}
use Rattle.thm_durable_bytes.proofs.OnMap.{on_command_lem, on_offer_lem}
use Rattle.thm_durable_bytes.proofs.OnHeader.{on-shown, on-grant, on-reply, on-outcome}
use Rattle.thm_durable_bytes.proofs.OnWait.{on_wait_lem}
use Rattle.thm_durable_bytes.proofs.OnArrivals.{on-arrival}
use Rattle.thm_durable_bytes.proofs.OnClients.{on-write, on_search_lem}
use Rattle.thm_durable_bytes.proofs.OnWorkers.{on_work_lem}

module _ (d f : Cluster) where
  -- an event that is the host's alone
  alone : (v : Event) (deed : State → State) → allowed (seen d) v ≡ true → step (seen d) v ≡ deed (seen d) → Beside (seen d) (deed (seen d))
      → f ≡ host d deed → Simulated (seen d) (seen f)
  alone v deed may does b q = one (seen d) (seen f) v may (does ∙ sym (ap seen q ∙ hosted d deed b))

  -- every event of the cluster is a run of `spec_run`: the same event, or, where a call was refused, one that does without it
  pub simulated : InMemory d → (v : Event) → allowed (seen d) v ≡ true → Called d v f → Simulated (seen d) (seen f)
  unfolding step Called on_request_lost on_request_repeats on_reply_lost on_reply_repeats on_offer_lost on_outcome_lost on_offer_timeout on_outcome_timeout set_requests set_replies set_offers set_outcomes
  simulated mem (command m) may c = on_command_lem d f m may c
  simulated mem (map_shown n fresh) may c = on-shown d f n fresh may c
  simulated mem (lease_granted n i sent lease) may c = on-grant d f n i sent lease may c
  simulated mem (client_writes n now least m) may c = on-write d f mem n now least m may c
  simulated mem (client_searches n now space m) may c = on_search_lem d f n now space m c
  simulated mem (node_waits i now timeout) may c = on_wait_lem d f mem i now timeout may c
  simulated mem (worker_steps n k epoch peer metric space) may c = on_work_lem d f mem n k epoch peer metric space may c
  simulated mem (request_arrives from to i) may c = on-arrival d f mem from to i may c
  simulated mem (request_lost from to i) may c =
      alone (request_lost from to i) (λ s. on_request_lost s from to i) may refl (record { map = refl; nodes = refl; clients = refl }) c
  simulated mem (request_repeats from to i) may c =
      alone (request_repeats from to i) (λ s. on_request_repeats s from to i) may refl (doubled-beside (seen d) from to (nth ((seen d).requests from to) i)) c
  simulated mem (reply_arrives i) may c = on-reply d f i may c
  simulated mem (reply_lost i) may c =
      alone (reply_lost i) (λ s. on_reply_lost s i) may refl (record { map = refl; nodes = refl; clients = refl }) c
  simulated mem (reply_repeats i) may c =
      alone (reply_repeats i) (λ s. on_reply_repeats s i) may refl (reply_doubled_beside (seen d) (nth (seen d).replies i)) c
  simulated mem (offer_arrives i index seq) may c = on_offer_lem d f i index seq may c
  simulated mem (offer_lost i) may c =
      alone (offer_lost i) (λ s. on_offer_lost s i) may refl (record { map = refl; nodes = refl; clients = refl }) c
  simulated mem (offer_times_out i) may c =
      alone (offer_times_out i) (λ s. on_offer_timeout s i) may refl (given-beside (seen d) i (nth (seen d).offers i)) c
  simulated mem (outcome_arrives i) may c = on-outcome d f i may c
  simulated mem (outcome_lost i) may c =
      alone (outcome_lost i) (λ s. on_outcome_lost s i) may refl (record { map = refl; nodes = refl; clients = refl }) c
  simulated mem (outcome_times_out i) may c =
      alone (outcome_times_out i) (λ s. on_outcome_timeout s i) may refl (late-beside (seen d) i (nth (seen d).outcomes i)) c

-- ---- the run

pub runs : (d f : Cluster) (vs : List Event) → Calls d vs f → Simulated (seen d) (seen f)
unfolding Calls
runs d f [] c = nothing (seen d) (seen f) (sym (ap seen c))
runs d f (v ∷ vs) c =
    let g = c.0 in
    then (seen d) (seen g) (seen f) (simulated d g c.1 v c.2 c.3) (runs g f vs c.4)

-- what every run of `spec_run` leaves, a run of the entry points leaves
module _ (d f : Cluster) (vs : List Event) (fresh : Fresh (seen d)) (c : Calls d vs f) where
  left : (P : State → Type 0) → ((es : List Event) → allowed_run (seen d) es ≡ true → P (run (seen d) es)) → P (seen f)
  left P g = let r = runs d f vs c in subst P r.ends (g r.events r.may)

  -- demand 3
  pub durable : Durable (seen f)
  durable = left Durable (model.durable (seen d) fresh)

  -- request 2.5
  pub alike : Alike (seen f)
  alike = left Alike (entries.alike (seen d) fresh)

  pub written : Written (seen f)
  written = left Written (entries.written (seen d) fresh)
