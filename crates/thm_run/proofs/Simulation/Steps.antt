-- Paper 01, 'Rules of a run': every event that may happen is a list of the protocol's moves, and so is every run. Assumes nothing.
use mathlib.Core.Path.{◌≡◌, refl, subst}
use mathlib.Core.Bool.{true}
use mathlib.Core.List.{List, [], ◌∷◌, ◌++◌}
use Rattle.spec.specs.Lists.{◌and◌}
use Rattle.spec_laws.proofs.Lists.{and_left, and_right}
use Rattle.spec_run.specs.State as real
use Rattle.spec_run.specs.Step as step
use Rattle.spec_run.specs.Rules.{allowed, allowed_run}
use Rattle.spec_run.specs.Event.{
  Event,
  command,
  map_shown,
  lease_granted,
  client_writes,
  client_searches,
  node_waits,
  worker_steps,
  request_arrives,
  request_lost,
  request_repeats,
  reply_arrives,
  reply_lost,
  reply_repeats,
  offer_arrives,
  offer_lost,
  offer_times_out,
  outcome_arrives,
  outcome_lost,
  outcome_times_out,
}
use Rattle.thm_run.proofs.Protocol.State as proto
use Rattle.thm_run.proofs.Protocol.State.{State, Move}
use Rattle.thm_run.proofs.Simulation.Relation.{World, Sim}
use Rattle.thm_run.proofs.Simulation.Frame.{Reaches, stays, Gently, reaches}
use Rattle.thm_run.proofs.Simulation.Losses.{request-lost, request-repeats, reply-lost, reply-repeats, offer_lost_lem, offer_late, outcome-lost, outcome-late}
use Rattle.thm_run.proofs.Simulation.Client.{granted, searched, wrote}
use Rattle.thm_run.proofs.Simulation.Waits.{on_wait_lem}
use Rattle.thm_run.proofs.Simulation.Told.{on-outcome}
use Rattle.thm_run.proofs.Simulation.Commands.{on_command_lem, on_offer_lem}
use Rattle.thm_run.proofs.Simulation.Replies.{on-reply}
use Rattle.thm_run.proofs.Simulation.Arrivals.{on-arrival}
use Rattle.thm_run.proofs.Simulation.Work.{on_work_lem}
use Rattle.thm_run.proofs.Simulation.Shown.{on-shown}

-- neither a command from elsewhere nor a map shown nor a Write
abbrev pub Quiet : Event → Type 0
Quiet (command bytes) = ⊥
Quiet (map_shown n fresh) = ⊥
Quiet (lease_granted n i sent lease) = Unit
Quiet (client_writes n now least bytes) = ⊥
Quiet (client_searches n now room bytes) = Unit
Quiet (node_waits i now timeout) = Unit
Quiet (worker_steps n key epoch peer metric room) = Unit
Quiet (request_arrives from to i) = Unit
Quiet (request_repeats from to i) = Unit
Quiet (reply_repeats i) = Unit
Quiet (request_lost from to i) = Unit
Quiet (reply_arrives i) = Unit
Quiet (reply_lost i) = Unit
Quiet (offer_arrives i index seq) = Unit
Quiet (offer_lost i) = Unit
Quiet (offer_times_out i) = Unit
Quiet (outcome_arrives i) = Unit
Quiet (outcome_lost i) = Unit
Quiet (outcome_times_out i) = Unit

pub on_quiet : (w : World) (s : real.State) (a : State) → Sim w s a → (e : Event) → Quiet e → allowed s e ≡ true → Gently w (step.step s e) a
unfolding allowed step.step
on_quiet w s a k (command bytes) q t = absurd q
on_quiet w s a k (map_shown n fresh) q t = absurd q
on_quiet w s a k (lease_granted n i sent lease) q t = granted w s a k n i sent lease
on_quiet w s a k (client_writes n now least bytes) q t = absurd q
on_quiet w s a k (client_searches n now room bytes) q t = searched w s a k n now room bytes
on_quiet w s a k (node_waits i now timeout) q t = on_wait_lem w s a k i now timeout
on_quiet w s a k (worker_steps n key epoch peer metric room) q t = on_work_lem w s a k n key epoch peer metric room
on_quiet w s a k (request_arrives from to i) q t = on-arrival w s a k from to i
on_quiet w s a k (request_repeats from to i) q t = request-repeats w s a k from to i
on_quiet w s a k (reply_repeats i) q t = reply-repeats w s a k i
on_quiet w s a k (request_lost from to i) q t = request-lost w s a k from to i
on_quiet w s a k (reply_arrives i) q t = on-reply w s a k i
on_quiet w s a k (reply_lost i) q t = reply-lost w s a k i
on_quiet w s a k (offer_arrives i index seq) q t = on_offer_lem w s a k i index seq t
on_quiet w s a k (offer_lost i) q t = offer_lost_lem w s a k i
on_quiet w s a k (offer_times_out i) q t = offer_late w s a k i
on_quiet w s a k (outcome_arrives i) q t = on-outcome w s a k i
on_quiet w s a k (outcome_lost i) q t = outcome-lost w s a k i
on_quiet w s a k (outcome_times_out i) q t = outcome-late w s a k i

pub on-event : (w : World) (s : real.State) (a : State) → Sim w s a → (e : Event) → allowed s e ≡ true → Reaches w (step.step s e) a
on-event w s a k (command bytes) t = unfold allowed in unfold step.step in on_command_lem w s a k bytes t
on-event w s a k (map_shown n fresh) t = unfold allowed in unfold step.step in on-shown w s a k n fresh
on-event w s a k (lease_granted n i sent lease) t = reaches w _ a (on_quiet w s a k (lease_granted n i sent lease) tt t)
on-event w s a k (client_writes n now least bytes) t = unfold allowed in unfold step.step in wrote w s a k n now least bytes t
on-event w s a k (client_searches n now room bytes) t = reaches w _ a (on_quiet w s a k (client_searches n now room bytes) tt t)
on-event w s a k (node_waits i now timeout) t = reaches w _ a (on_quiet w s a k (node_waits i now timeout) tt t)
on-event w s a k (worker_steps n key epoch peer metric room) t = reaches w _ a (on_quiet w s a k (worker_steps n key epoch peer metric room) tt t)
on-event w s a k (request_arrives from to i) t = reaches w _ a (on_quiet w s a k (request_arrives from to i) tt t)
on-event w s a k (request_repeats from to i) t = reaches w _ a (on_quiet w s a k (request_repeats from to i) tt t)
on-event w s a k (reply_repeats i) t = reaches w _ a (on_quiet w s a k (reply_repeats i) tt t)
on-event w s a k (request_lost from to i) t = reaches w _ a (on_quiet w s a k (request_lost from to i) tt t)
on-event w s a k (reply_arrives i) t = reaches w _ a (on_quiet w s a k (reply_arrives i) tt t)
on-event w s a k (reply_lost i) t = reaches w _ a (on_quiet w s a k (reply_lost i) tt t)
on-event w s a k (offer_arrives i index seq) t = reaches w _ a (on_quiet w s a k (offer_arrives i index seq) tt t)
on-event w s a k (offer_lost i) t = reaches w _ a (on_quiet w s a k (offer_lost i) tt t)
on-event w s a k (offer_times_out i) t = reaches w _ a (on_quiet w s a k (offer_times_out i) tt t)
on-event w s a k (outcome_arrives i) t = reaches w _ a (on_quiet w s a k (outcome_arrives i) tt t)
on-event w s a k (outcome_lost i) t = reaches w _ a (on_quiet w s a k (outcome_lost i) tt t)
on-event w s a k (outcome_times_out i) t = reaches w _ a (on_quiet w s a k (outcome_times_out i) tt t)

-- moves, and then others
both_runs : (a : State) (ms ns : List Move) → proto.run (proto.run a ms) ns ≡ proto.run a (ms ++ ns)
unfolding proto.run
both_runs a [] ns = refl
both_runs a (v ∷ vs) ns = both_runs (proto.step a v) vs ns

pub on-run : (w : World) (s : real.State) (a : State) → Sim w s a → (es : List Event) → allowed_run s es ≡ true → Reaches w (step.run s es) a
unfolding allowed_run step.run
on-run w s a k [] t = stays w s a k
on-run w s a k (e ∷ es) t =
    let r = on-event w s a k e (and_left (allowed s e) (allowed_run (step.step s e) es) t) in
    let q = on-run w (step.step s e) (proto.run a r.0) r.1 es (and_right (allowed s e) (allowed_run (step.step s e) es) t) in
    (r.0 ++ q.0, subst (Sim w _) (both_runs a r.0 q.0) q.1)
