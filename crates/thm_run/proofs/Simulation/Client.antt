-- Paper 01, 'Rules of a run', 'At a node': lease grants, Search, Write. Only an accepted Write is a move. Assumes nothing.
use Prim.Native.Nat.{ℕ, zero, suc, ◌+◌}
use mathlib.Core.Path.{◌≡◌, refl, sym, ap, ◌∙◌, subst}
use mathlib.Core.Bool.{true, not}
use mathlib.Core.List.{List, [], ◌∷◌}
use mathlib.Core.Option.{Option, none, some}
use native.Mathlib.Omega.{arith}
use lib.Dec.{eqb, ltb}
use lib.ListN.{length, length-append}
use borrow.Author.Tests.{not-false, ltb-true}
use Rattle.spec.specs.Lists.{◌or◌, every}
use Rattle.spec.specs.Refusals.{Refusal, unknown_shard}
use Rattle.spec.specs.Log.{Op, Entry, ShardReplica, push, append, last_offset}
use Rattle.spec.specs.Layout.Format.{Bytes}
use Rattle.spec.specs.Layout.Parts.{WireOp, wire_upsert, wire_delete}
use Rattle.spec.specs.Layout.Writable.{GoodOp, GoodWrite}
use Rattle.spec.specs.Layout.Message as message
use Rattle.spec.specs.Layout.Message.{decode_write}
use Rattle.spec.specs.Map.Change.{holds}
use Rattle.spec.specs.Node.Held as held
use Rattle.spec.specs.Node.Held.{Held}
use Rattle.spec.specs.Node.Shards.{Result, leads_at, with_replica, with_held}
use Rattle.spec.specs.Node.Wire.{stored_op, op_in_domain}
use Rattle.spec.specs.Node.Lease.{GrantAnswer, grant, leased}
use Rattle.spec.specs.Node.Client as client
use Rattle.spec.specs.Node.Client.{WriteAnswer, accepted, write_refused, write_held, ack_count, overfull}
use Rattle.spec.specs.Node.Calls.{late_time, grant_with, call_grant, call_search, write_of, write_with, call_write}
use Rattle.spec.specs.Node.WellFormed.{well_formed_header, well_formed_lent}
use Rattle.spec_laws.proofs.Lists.{by-test}
use Rattle.spec_laws.proofs.Wire.Messages.{write_forth}
use Rattle.spec_laws.proofs.Map.Rows.{every_tail}
use Rattle.spec_laws.proofs.Node.Refusals.{search_same}
use Rattle.spec_laws.proofs.Node.Formed.{FormedNode}
use Rattle.spec_laws.proofs.Node.KeptCalls.{grant_with_kept, write_with_kept}
use Rattle.spec_run.specs.State as real
use Rattle.spec_run.specs.Step as step
use Rattle.spec_run.specs.Rules.{is_bytes}
use Rattle.thm_run.proofs.Protocol.State as proto
use Rattle.thm_run.proofs.Protocol.State.{lead, Node, State, writing}
use Rattle.thm_run.proofs.Simulation.Ops.{IdFits}
use Rattle.thm_run.proofs.Simulation.Relation.{World, HeldSim, NodeSim, accepted_of, Sim}
use Rattle.thm_run.proofs.Simulation.Frame.{Reaches, stays, moves, Gently, rests, on-nodes, on-node, on-accepted}
use Rattle.thm_run.proofs.Simulation.AtNode.{leads, at_key, node-with}
use Rattle.thm_run.proofs.Simulation.Logs.{lead-push, fits-push}

-- bytes, as the formats say it
pub are_bytes : (s : List ℕ) → is_bytes s ≡ true → Bytes s
unfolding is_bytes every
are_bytes [] e i = omega arith
are_bytes (x ∷ xs) e zero = ltb-true x 256 (every_tail (λ b. ltb b 256) x xs e).0
are_bytes (x ∷ xs) e (suc i) = are_bytes xs (every_tail (λ b. ltb b 256) x xs e).1 i

id-fits : (o : WireOp) → GoodOp o → IdFits (stored_op o)
unfolding stored_op
id-fits (wire_upsert id bs) g = g.0
id-fits (wire_delete id) g = g

module _ (w : World) (s : real.State) (a : State) (k : Sim w s a) where
  -- ---- lease grants, Search

  pub granted : (n i sent lease : ℕ) → Gently w (step.on_grant s n i sent lease) a
  unfolding step.on_grant call_grant grant_with grant
  granted n i sent lease =
      let x = s.nodes n in
      let h = k.nodes n in
      let P : held.Node → Type 0 = λ v. FormedNode v → NodeSim w a.map.epoch n v (a.nodes n) in
      rests w _ a
      (on-node w s a k n (call_grant x i sent lease).after
      (by-test (λ (v : Result GrantAnswer held.Node). P v.after) (late_time sent or late_time lease) (λ p f. h)
      (λ p. by-test (λ (v : Result GrantAnswer held.Node). P v.after) (not (well_formed_header x)) (λ q f. h)
      (λ q. by-test P (eqb i x.incarnation)
      (λ r f. record { id = h.id; formed = f; here = h.here; gone = h.gone; listed = h.listed }) (λ r f. h)))
      (grant_with_kept x h.formed (well_formed_header x) i sent lease)))

  pub searched : (n now room : ℕ) (bytes : List ℕ) → Gently w (step.on_search s n now room bytes) a
  unfolding step.on_search call_search
  searched n now room bytes =
      rests w _ a
      (on-node w s a k n (call_search (s.nodes n) now room bytes).after
      (subst (λ (v : held.Node). NodeSim w a.map.epoch n v (a.nodes n))
      (sym (search_same (well_formed_lent (s.nodes n)) (s.nodes n) now room bytes)) (k.nodes n)))

  -- ---- Write

  not_recorded : (t : real.State) (n : ℕ) (o : Option message.Write) (r : Refusal) → step.record_write t n o (write_refused r) ≡ t
  unfolding step.record_write
  not_recorded t n none r = refl
  not_recorded t n (some m) r = refl

  module _ (n : ℕ) where
    abbrev x : held.Node
    x = s.nodes n

    abbrev b : Node
    b = a.nodes n

    -- the state after a write that was answered so
    abbrev After : Option message.Write → Result WriteAnswer held.Node → Type 0
    After o r = FormedNode r.after → Reaches w (step.record_write (real.set_node s n r.after) n o r.answer) a

    refused : (o : Option message.Write) (r : Refusal) (y : held.Node) → NodeSim w a.map.epoch n y b
        → After o (record { answer = write_refused r; after = y })
    refused o r y h f =
        subst (λ (t : real.State). Reaches w t a) (sym (not_recorded (real.set_node s n y) n o r)) (stays w _ a (on-node w s a k n y h))

    module _ (m : message.Write) (good : GoodWrite m) (y : holds n w.holders ≡ true) (h : Held) (e : x.held ≡ h ∷ [])
        (hs : HeldSim w a.map.epoch n h b) (same : m.key ≡ w.key) where
      abbrev op : Op
      op = stored_op m.op

      abbrev new : Entry
      new = record { epoch = h.replica.epoch; offset = last_offset h.replica + 1; op = op }

      abbrev grown : ShardReplica
      grown = append h.replica op

      longer : length grown.log ≡ suc (length h.replica.log)
      unfolding append push
      longer =
          let q = length-append h.replica.log (new ∷ []) in
          omega arith

      taken : leads_at h.role m.epoch ≡ true
          → FormedNode (with_held x (with_replica h grown ∷ []))
          → Reaches w (step.record_write (real.set_node s n (with_held x (with_replica h grown ∷ []))) n (some m) (accepted (last_offset grown))) a
      unfolding step.record_write proto.step proto.on_write proto.write_as append
      taken t f =
          let c = leads w a.map.epoch n h.role h.replica h.peers b.role hs.role m.epoch t in
          let l = c.0 in
          let b' : Node = record { replica = append b.replica op; role = lead l } in
          let held' : HeldSim w a.map.epoch n (with_replica h grown) b' = record {
            key = hs.key;
            holders = hs.holders;
            replica = ap (λ (r : ShardReplica). append r op) hs.replica;
            fits = fits-push w h.replica new (omega arith) (id-fits m.op good.2) hs.fits;
            role = lead-push w a.map.epoch n h.role h.peers h.replica new l c.2;
          } in
          let v : real.Write = record { node = n; key = m.key; epoch = m.epoch; offset = last_offset grown; op = op } in
          let sim = on-accepted w (real.set_node s n (with_held x (with_replica h grown ∷ []))) (proto.set_node a n b')
          (on-nodes w s a k n _ b' (node-with w a.map.epoch n x b (k.nodes n) b' (with_replica h grown) y f held')) v same in
          let offset : suc (length b.replica.log) ≡ last_offset grown =
          ap (λ (r : ShardReplica). suc (length r.log)) (sym hs.replica) ∙ sym longer in
          let moved : proto.step a (writing n op) ≡ proto.add_accepted (proto.set_node a n b') (accepted_of w v) =
          ap (proto.write_as a n op) c.1
          ∙ ap (λ (d : ℕ). proto.add_accepted (proto.set_node a n b')
          (record { node = n; epoch = d; offset = suc (length b.replica.log); op = op })) c.3
          ∙ ap (λ (o : ℕ). proto.add_accepted (proto.set_node a n b') (record { node = n; epoch = m.epoch; offset = o; op = op })) offset in
          moves w _ a (writing n op) (subst (Sim w _) (sym moved) sim)

      at_held : (now least : ℕ)
          → FormedNode (with_held x ((write_held (leased x now) least m.epoch op h).after ∷ []))
          → Reaches w (step.record_write (real.set_node s n (with_held x ((write_held (leased x now) least m.epoch op h).after ∷ []))) n (some m)
          (write_held (leased x now) least m.epoch op h).answer) a
      unfolding write_held
      at_held now least =
          let P : Result WriteAnswer Held → Type 0 = λ v. FormedNode (with_held x (v.after ∷ []))
          → Reaches w (step.record_write (real.set_node s n (with_held x (v.after ∷ []))) n (some m) v.answer) a in
          let still : (r : Refusal) → P (record { answer = write_refused r; after = h }) =
          λ r f. refused (some m) r (with_held x (h ∷ [])) (node-with w a.map.epoch n x b (k.nodes n) b h y f hs) f in
          by-test P (not (leads_at h.role m.epoch)) (λ p. still _)
          (λ p. by-test P (not (leased x now)) (λ q. still _)
          (λ q. by-test P (ltb (ack_count h) least) (λ r. still _)
          (λ r. by-test P (overfull grown) (λ t. still _) (λ t f. taken (not-false (leads_at h.role m.epoch) p) f))))

    decoded : (now least : ℕ) (o : Option message.Write) → ((m : message.Write) → o ≡ some m → GoodWrite m)
        → After o (write_of (well_formed_lent x) x now least o)
    unfolding client.on_write
    decoded now least none good = refused none _ x (k.nodes n)
    decoded now least (some m) good =
        let P : Result WriteAnswer held.Node → Type 0 = After (some m) in
        by-test P (not (op_in_domain m.op)) (λ p. refused (some m) _ x (k.nodes n))
        (λ p. by-test P (not (well_formed_lent x m.key)) (λ q. refused (some m) _ x (k.nodes n))
        (λ q. at_key w a.map.epoch n x b (k.nodes n) P m.key (write_refused unknown_shard)
        (write_held (leased x now) least m.epoch (stored_op m.op))
        (refused (some m) unknown_shard x (k.nodes n))
        (λ y h e hs same. at_held m (good m refl) y h e hs same now least)))

    pub wrote : (now least : ℕ) (bytes : List ℕ) → is_bytes bytes ≡ true → Reaches w (step.on_write s n now least bytes) a
    unfolding step.on_write call_write write_with
    wrote now least bytes t =
        let good = are_bytes bytes t in
        by-test (After (decode_write bytes)) (late_time now) (λ p. refused (decode_write bytes) _ x (k.nodes n))
        (λ p. decoded now least (decode_write bytes) (λ m e. (write_forth bytes good m e).0))
        (write_with_kept x (k.nodes n).formed (well_formed_lent x) now least bytes good)
