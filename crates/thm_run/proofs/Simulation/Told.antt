-- Paper 01, 'Rules of a run', 'Commands': the outcome of a proposal arrives at its node. Only an applied Shrink is more than a loss to the
-- protocol. Assumes nothing.
use Prim.Native.Nat.{ℕ}
use mathlib.Core.Path.{◌≡◌, refl, sym, ap, ◌∙◌, subst}
use mathlib.Core.Bool.{Bool, true, false, not}
use mathlib.Core.List.{List, [], ◌∷◌, map}
use mathlib.Core.Option.{Option, none, some}
use lib.Dec.{eqb}
use Rattle.spec.specs.Lists.{◌and◌, nth}
use Rattle.spec.specs.Map.Apply.{update}
use Rattle.spec.specs.Map.Change.{holds}
use Rattle.spec.specs.Node.Held as held
use Rattle.spec.specs.Node.Held.{Held}
use Rattle.spec.specs.Node.Shards.{Result, leads_at, with_held, of_node}
use Rattle.spec.specs.Node.Ack as ack
use Rattle.spec.specs.Node.Ack.{OutcomeAnswer, settled, outcome_held, outcome_at, settled_row}
use Rattle.spec.specs.Node.Calls.{outcome_with, call_outcome}
use Rattle.spec.specs.Node.WellFormed.{well_formed_header}
use Rattle.spec_laws.proofs.Lists.{by-test}
use Rattle.spec_laws.proofs.Node.Formed.{FormedNode}
use Rattle.spec_laws.proofs.Node.KeptCalls.{outcome_with_kept}
use Rattle.spec_run.specs.State as real
use Rattle.spec_run.specs.Step as step
use Rattle.thm_run.proofs.Protocol.Base.{All, remove_at}
use Rattle.thm_run.proofs.Protocol.Sets.{without}
use Rattle.thm_run.proofs.Protocol.State as proto
use Rattle.thm_run.proofs.Protocol.State.{Lead, Role, lead, Node, State, with_role, with_ack}
use Rattle.thm_run.proofs.Simulation.Lists.{all-removed, collect-taken}
use Rattle.thm_run.proofs.Simulation.Relation.{World, LeadSim, RoleSim, HeldSim, NodeSim, OutcomeKey, shrinks, outcome_of, Sim}
use Rattle.thm_run.proofs.Simulation.Frame.{Gently, rests, gently, on-node, on-nodes, on_outcomes}
use Rattle.thm_run.proofs.Simulation.Rows.{settled-rows, left-rows}
use Rattle.thm_run.proofs.Simulation.AtNode.{leads, lead-at, at_key, node-with}
use Rattle.thm_run.proofs.Simulation.Losses.{outcome-gone}

module _ (w : World) (s : real.State) (a : State) (k : Sim w s a) (i : ℕ) (o : real.Outcome) (found : nth s.outcomes i ≡ some o) where
  abbrev n : ℕ
  n = o.node

  abbrev x : held.Node
  x = s.nodes n

  abbrev b : Node
  b = a.nodes n

  abbrev top : ℕ
  top = a.map.epoch

  abbrev rest : List real.Outcome
  rest = step.removed s.outcomes i

  keys : All (OutcomeKey w) rest
  keys = all-removed (OutcomeKey w) s.outcomes i k.told

  abbrev After : held.Node → Type 0
  After y = FormedNode y → Gently w (real.set_outcomes (real.set_node s n y) rest) a

  -- to the protocol the outcome is lost
  quiet : (y : held.Node) → NodeSim w top n y b → Gently w (real.set_outcomes (real.set_node s n y) rest) a
  unfolding real.set_node
  quiet y h = outcome-gone w (real.set_node s n y) a (on-node w s a k n y h) i o found rest refl keys

  module _ (y : holds n w.holders ≡ true) (h : Held) (hs : HeldSim w top n h b) where
    module _ (t : leads_at h.role o.epoch ≡ true) where
      c : (l : Lead) × (b.role ≡ lead l) × LeadSim w top n h.role h.replica h.peers l × (l.epoch ≡ o.epoch)
      c = leads w top n h.role h.replica h.peers b.role hs.role o.epoch t

      -- the shard with its rows settled
      abbrev after : Bool → Held
      after left = record {
        key = h.key;
        replica = h.replica;
        holders = h.holders;
        role = h.role;
        own = h.own and not (left and eqb o.peer x.id);
        peers = update (of_node o.peer) (settled_row left) h.peers;
      }

      kept : FormedNode (with_held x (after false ∷ [])) → Gently w (real.set_outcomes (real.set_node s n (with_held x (after false ∷ []))) rest) a
      kept f =
          let led : LeadSim w top n h.role h.replica (update (of_node o.peer) (settled_row false) h.peers) c.0 = record {
            role = c.2.role;
            epoch = c.2.epoch;
            end = c.2.end;
            table = c.2.table;
            upto = c.2.upto;
            rows = settled-rows w n c.0 h.peers c.2.rows o.peer;
          } in
          quiet (with_held x (after false ∷ []))
          (node-with w top n x b (k.nodes n) b (after false) y f (record {
            key = hs.key;
            holders = hs.holders;
            replica = hs.replica;
            fits = hs.fits;
            role =
                subst (λ (r : Role). RoleSim w top n h.role h.replica (update (of_node o.peer) (settled_row false) h.peers) r)
                (sym c.1) led;
          }))

      gone : shrinks w o ≡ true → FormedNode (with_held x (after true ∷ []))
          → Gently w (real.set_outcomes (real.set_node s n (with_held x (after true ∷ []))) rest) a
      unfolding proto.step proto.on_tell proto.tell_as proto.told_as proto.set_node proto.set_outcomes proto.with_role proto.with_ack
      gone left f =
          let l : Lead = with_ack c.0 (without o.peer c.0.ack) in
          let b' : Node = with_role b (lead l) in
          let led : LeadSim w top n h.role h.replica (update (of_node o.peer) (settled_row true) h.peers) l = record {
            role = c.2.role;
            epoch = c.2.epoch;
            end = c.2.end;
            table = c.2.table;
            upto = c.2.upto;
            rows = left-rows w n c.0 h.peers c.2.rows o.peer;
          } in
          let node : NodeSim w top n (with_held x (after true ∷ [])) b' =
          node-with w top n x b (k.nodes n) b' (after true) y f (record {
            key = hs.key;
            holders = hs.holders;
            replica = hs.replica;
            fits = hs.fits;
            role = led;
          }) in
          let r = collect-taken (outcome_of w) (shrinks w) s.outcomes i o found left in
          let j : ℕ = r.0 in
          let at : nth a.outcomes j ≡ some (outcome_of w o) = ap (λ (z : List proto.Outcome). nth z j) (sym k.outcomes) ∙ r.1 in
          let m : List proto.Outcome = remove_at a.outcomes j in
          let moved : proto.step a (proto.outcome j) ≡ proto.set_node (proto.set_outcomes a m) n b' =
          ap (proto.tell_as a j) at
          ∙ ap (proto.told_as (proto.set_outcomes a m) (outcome_of w o)) (lead-at b.role c.0 o.epoch c.1 c.3) in
          let sim = on_outcomes w (real.set_node s n (with_held x (after true ∷ []))) (proto.set_node a n b')
          (on-nodes w s a k n (with_held x (after true ∷ [])) b' node) rest m
          (r.2 ∙ ap (λ (z : List proto.Outcome). remove_at z j) k.outcomes) keys in
          gently w _ a (proto.outcome j) tt (subst (Sim w _) (sym moved) sim)

      both : (left : Bool) → shrinks w o ≡ left → FormedNode (with_held x (after left ∷ []))
          → Gently w (real.set_outcomes (real.set_node s n (with_held x (after left ∷ []))) rest) a
      both true e f = gone e f
      both false e f = kept f

    at_held : After (with_held x (outcome_held x.id o.epoch o.peer (shrinks w o) h ∷ []))
    unfolding outcome_held
    at_held =
        by-test (λ (v : Held). After (with_held x (v ∷ []))) (leads_at h.role o.epoch) (λ t f. both t (shrinks w o) refl f)
        (λ t f. quiet (with_held x (h ∷ [])) (node-with w top n x b (k.nodes n) b h y f hs))

  learns : After (call_outcome x o.key o.epoch o.peer o.what o.applied).after
  unfolding call_outcome outcome_with ack.on_outcome
  learns =
      by-test (λ (v : Result OutcomeAnswer held.Node). After v.after) (not (well_formed_header x)) (λ p f. quiet x (k.nodes n))
      (λ p. at_key w top n x b (k.nodes n) (λ v. After v.after) o.key settled
      (outcome_at x.id o.epoch o.peer (shrinks w o)) (λ f. quiet x (k.nodes n)) (λ y h e hs same. at_held y h hs))

  pub learnt : Gently w (step.learnt s i (some o)) a
  unfolding step.learnt call_outcome
  learnt = learns (outcome_with_kept x (k.nodes n).formed (well_formed_header x) o.key o.epoch o.peer o.what o.applied)

pub on-outcome : (w : World) (s : real.State) (a : State) → Sim w s a → (i : ℕ) → Gently w (step.on_outcome s i) a
unfolding step.on_outcome step.learnt
on-outcome w s a k i = go (nth s.outcomes i) refl
  where
    go : (o : Option real.Outcome) → nth s.outcomes i ≡ o → Gently w (step.learnt s i o) a
    go none e = rests w _ a k
    go (some o) e = learnt w s a k i o e
