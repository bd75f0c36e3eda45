-- Paper 01, 'Rules of a run', 'At a node': waiting for acks. Each Shrink that the wait proposes is a suspicion, and a wait that says done an
-- acknowledgement; these moves come in any order. Assumes nothing.
use Prim.Native.Nat.{ℕ, ◌+◌, ◌≤◌}
use mathlib.Core.Path.{◌≡◌, refl, sym, ap, ◌∙◌, subst}
use mathlib.Core.Bool.{Bool, true, false, cond, not}
use mathlib.Core.List.{List, [], ◌∷◌, ◌++◌, map, append_assoc, append-nil}
use mathlib.Core.Option.{Option, none, some}
use lib.Dec.{eqb, leb, ltb}
use borrow.Author.Tests.{eqb-false, ltb-false, le-leb, not-false, not-true}
use Rattle.spec.specs.Lists.{◌and◌, ◌or◌, nth, every, collect}
use Rattle.spec.specs.Refusals.{Refusal, unknown_shard}
use Rattle.spec.specs.Log.{last_offset}
use Rattle.spec.specs.Map.Change.{holds}
use Rattle.spec.specs.Node.Held as held
use Rattle.spec.specs.Node.Held.{Held}
use Rattle.spec.specs.Node.Shards.{Result, leads_at, with_peers, with_held, of_node}
use Rattle.spec.specs.Node.Client as client
use Rattle.spec.specs.Node.Client.{WaitAnswer, wait_refused, waiting, done, wait_held, wait_row, to_shrink, node_of, has_acked}
use Rattle.spec.specs.Node.Calls.{late_time, wait_with, call_wait}
use Rattle.spec.specs.Node.WellFormed.{well_formed_header}
use Rattle.spec.specs.declared.Peer.{Peer}
use Rattle.spec.specs.declared.DataNodeId.{DataNodeId}
use Rattle.spec_laws.proofs.Lists.{by-test, not_both}
use Rattle.spec_laws.proofs.Map.Rows.{every_tail, every-find}
use Rattle.spec_laws.proofs.Node.Formed.{FormedNode}
use Rattle.spec_laws.proofs.Node.KeptCalls.{wait_with_kept}
use Rattle.spec_run.specs.State as real
use Rattle.spec_run.specs.Step as step
use Rattle.thm_run.proofs.Protocol.Base.{All, all_snoc, all-nth}
use Rattle.thm_run.proofs.Protocol.Sets.{member, In, in_cons, in_head}
use Rattle.thm_run.proofs.Protocol.State as proto
use Rattle.thm_run.proofs.Protocol.State.{Lead, Role, lead, Node, State, suspicion, all_acked}
use Rattle.thm_run.proofs.Simulation.Lists.{nth-map, map_join}
use Rattle.thm_run.proofs.Simulation.Relation.{World, is_holder, RowsSim, LeadSim, RoleSim, HeldSim, NodeSim, OfferFits, WriteKey, proposal_of, accepted_of, acknowledged_of, Sim}
use Rattle.thm_run.proofs.Simulation.Frame.{Gently, rests, then_gently, on-node, on_offers, same_offers, on_acknowledged}
use Rattle.thm_run.proofs.Simulation.Rows.{ack_row_lem, wait_rows}
use Rattle.thm_run.proofs.Simulation.AtNode.{leads, lead-at, at_key, node-with}

-- what every member passes, every element passes
in_every : (p : ℕ → Bool) (l : List ℕ) → ((m : ℕ) → In m l → p m ≡ true) → every p l ≡ true
unfolding every
in_every p [] f = refl
in_every p (x ∷ xs) f = rw (f x (in_head x xs)) (in_every p xs (λ m i. f m (in_cons m x xs i)))

-- the peers of the rows that pass are holders
holding : (w : World) (p : Peer → Bool) (rows : List Peer) → every (is_holder w) rows ≡ true
    → All (λ (d : DataNodeId). holds d.0 w.holders ≡ true) (collect p node_of rows)
unfolding collect
holding w p [] h = tt
holding w p (q ∷ qs) h =
    let t = every_tail (is_holder w) q qs h in
    let more = holding w p qs t.1 in
    by-test (All (λ (d : DataNodeId). holds d.0 w.holders ≡ true)) (p q) (λ e. (t.0, more)) (λ e. more)

-- a member that does not lack an offset has acked it
not_lacking : (o : ℕ) (q : Peer) → has_acked o q ≡ true → q.member ≡ true → o ≤ q.acked.0
unfolding ◌and◌
not_lacking o q h m = go q.member m h
  where
    go : (b : Bool) → b ≡ true → not (b and ltb q.acked.0 o) ≡ true → o ≤ q.acked.0
    go true e t = ltb-false q.acked.0 o (not-true (ltb q.acked.0 o) t)
    go false e t = not_both false e refl

-- every other member of the ack set has the offset
all-acked : (w : World) (n : ℕ) (l : Lead) (rows : List Peer) → RowsSim w n l rows → (o : ℕ) → every (has_acked o) rows ≡ true → all_acked n o l ≡ true
unfolding all_acked ◌or◌
all-acked w n l rows k o h =
    in_every (λ m. eqb m n or leb o (l.acked m)) l.ack (λ m i. go m i (eqb m n) refl)
  where
    go : (m : ℕ) → In m l.ack → (b : Bool) → eqb m n ≡ b → (b or leb o (l.acked m)) ≡ true
    go m i true e = refl
    go m i false e =
        let r = ack_row_lem w n l rows k m i (eqb-false m n e) in
        let row = k.row m r.0 r.1 in
        le-leb o (l.acked m)
        (subst (λ (v : ℕ). o ≤ v) row.acked
        (not_lacking o r.0 (every-find (has_acked o) (of_node m) rows r.0 h r.1) (row.joined ∙ i)))

module _ (w : World) (v : real.Write) (l : Lead) (key : WriteKey w v) (same : l.epoch ≡ v.epoch) where
  -- the Shrinks that a wait proposes, one suspicion each
  suspects : (ps : List DataNodeId) → All (λ (d : DataNodeId). holds d.0 w.holders ≡ true) ps → (s : real.State) (a : State) → Sim w s a
      → (a.nodes v.node).role ≡ lead l → v.epoch ≤ a.map.epoch
      → Gently w (real.set_offers s (s.offers ++ map (step.shrink_of v) ps)) a
  unfolding real.set_offers proto.set_proposals proto.step proto.on_suspect proto.suspect_as
  suspects [] hs s a k role upto =
      rests w _ a
      (subst (λ (z : List real.Offer). Sim w (real.set_offers s z) a) (sym (append-nil s.offers))
      (same_offers w s a k s.offers k.offers k.offered))
  suspects (p ∷ ps) hs s a k role upto =
      let o : real.Offer = step.shrink_of v p in
      let a' : State = proto.set_proposals a (a.proposals ++ (proposal_of w o ∷ [])) in
      let moved : proto.step a (suspicion v.node p.0) ≡ a' =
      ap (proto.suspect_as a v.node p.0) role
      ∙ ap (λ (d : ℕ). proto.set_proposals a (a.proposals ++ (record { node = v.node; expand = false; peer = p.0; epoch = d } ∷ []))) same in
      let s' : real.State = real.set_offers s (s.offers ++ (o ∷ [])) in
      let k' : Sim w s' a' =
      on_offers w s a k (s.offers ++ (o ∷ [])) (a.proposals ++ (proposal_of w o ∷ []))
      (map_join (proposal_of w) s.offers (o ∷ []) ∙ ap (λ (z : List proto.Proposal). z ++ (proposal_of w o ∷ [])) k.offers)
      (all_snoc (OfferFits w a.map.epoch) s.offers o k.offered
      (record { key = key; peer = w.ids p.0 hs.0; upto = upto })) in
      let r = suspects ps hs.1 s' a' k' role upto in
      let r' = subst (λ (z : List real.Offer). Gently w (real.set_offers s z) a') (append_assoc s.offers (o ∷ []) (map (step.shrink_of v) ps)) r in
      then_gently w _ a (suspicion v.node p.0) tt (subst (Gently w _) (sym moved) r')

module _ (w : World) (s : real.State) (a : State) (k : Sim w s a) (i : ℕ) (v : real.Write) (found : nth s.accepted i ≡ some v)
    (now timeout : ℕ) where
  abbrev n : ℕ
  n = v.node

  abbrev x : held.Node
  x = s.nodes n

  abbrev b : Node
  b = a.nodes n

  key : WriteKey w v
  key = all-nth (WriteKey w) s.accepted i v k.written found

  abbrev After : Result WaitAnswer held.Node → Type 0
  After r = FormedNode r.after → Gently w (step.waited (real.set_node s n r.after) v r.answer) a

  refused : (r : Refusal) (y : held.Node) → NodeSim w a.map.epoch n y b → After (record { answer = wait_refused r; after = y })
  unfolding step.waited
  refused r y h f = rests w _ a (on-node w s a k n y h)

  module _ (y : holds n w.holders ≡ true) (h : Held) (hs : HeldSim w a.map.epoch n h b) where
    abbrev last : ℕ
    last = last_offset h.replica

    abbrev h' : Held
    h' = with_peers h (map (wait_row last now timeout) h.peers)

    abbrev ps : List DataNodeId
    ps = collect (to_shrink last now timeout) node_of h.peers

    module _ (t : leads_at h.role v.epoch ≡ true) (f : FormedNode (with_held x (h' ∷ []))) where
      c : (l : Lead) × (b.role ≡ lead l) × LeadSim w a.map.epoch n h.role h.replica h.peers l × (l.epoch ≡ v.epoch)
      c = leads w a.map.epoch n h.role h.replica h.peers b.role hs.role v.epoch t

      led : LeadSim w a.map.epoch n h.role h.replica (map (wait_row last now timeout) h.peers) c.0
      led = record {
        role = c.2.role;
        epoch = c.2.epoch;
        end = c.2.end;
        table = c.2.table;
        upto = c.2.upto;
        rows = wait_rows w n c.0 h.peers c.2.rows last now timeout;
      }

      sim : Sim w (real.set_node s n (with_held x (h' ∷ []))) a
      sim =
          on-node w s a k n _
          (node-with w a.map.epoch n x b (k.nodes n) b h' y f
          (record {
            key = hs.key;
            holders = hs.holders;
            replica = hs.replica;
            fits = hs.fits;
            role =
                subst (λ (r : Role). RoleSim w a.map.epoch n h.role h.replica (map (wait_row last now timeout) h.peers) r)
                (sym c.1) led;
          }))

      abbrev s' : real.State
      s' = real.set_node s n (with_held x (h' ∷ []))

      peers : All (λ (d : DataNodeId). holds d.0 w.holders ≡ true) ps
      peers = holding w (to_shrink last now timeout) h.peers c.2.rows.holders

      upto : v.epoch ≤ a.map.epoch
      upto = subst (λ (e : ℕ). e ≤ a.map.epoch) c.3 c.2.upto

      more : Gently w (step.waited s' v (waiting ps)) a
      unfolding step.waited
      more = suspects w v c.0 key c.3 ps peers s' a sim c.1 upto

      enough : every (has_acked v.offset) h.peers ≡ true → Gently w (step.waited s' v (done ps)) a
      unfolding step.waited real.set_writes real.set_offers real.set_node proto.step proto.on_acknowledge proto.ack_as proto.ack_lead proto.add_acknowledged
      enough e =
          let at : nth a.accepted i ≡ some (accepted_of w v) =
          ap (λ (z : List proto.Accepted). nth z i) (sym k.accepted) ∙ nth-map (accepted_of w) s.accepted i v found in
          let a' : State = proto.add_acknowledged a (acknowledged_of w v) in
          let moved : proto.step a (proto.waiting i) ≡ a' =
          ap (proto.ack_as a) at ∙ ap (proto.ack_lead a (accepted_of w v)) (lead-at b.role c.0 v.epoch c.1 c.3)
          ∙ ap (λ (z : Bool). cond z a' a) (all-acked w n c.0 h.peers c.2.rows v.offset e) in
          let r = suspects w v c.0 key c.3 ps peers (real.set_writes s' s.accepted (s.acknowledged ++ (v ∷ []))) a'
          (on_acknowledged w s' a sim v key) c.1 upto in
          then_gently w _ a (proto.waiting i) tt (subst (Gently w _) (sym moved) r)

    at_held : FormedNode (with_held x ((wait_held now timeout v.epoch v.offset h).after ∷ []))
        → Gently w (step.waited (real.set_node s n (with_held x ((wait_held now timeout v.epoch v.offset h).after ∷ []))) v
        (wait_held now timeout v.epoch v.offset h).answer) a
    unfolding wait_held
    at_held =
        let P : Result WaitAnswer Held → Type 0 = λ r. FormedNode (with_held x (r.after ∷ []))
        → Gently w (step.waited (real.set_node s n (with_held x (r.after ∷ []))) v r.answer) a in
        by-test P (not (leads_at h.role v.epoch))
        (λ p f. refused _ (with_held x (h ∷ [])) (node-with w a.map.epoch n x b (k.nodes n) b h y f hs) f)
        (λ p f. let t = not-false (leads_at h.role v.epoch) p in
        by-test (λ (z : WaitAnswer). Gently w (step.waited (real.set_node s n (with_held x (h' ∷ []))) v z) a) (every (has_acked v.offset) h.peers)
        (λ e. enough t f e) (λ e. more t f))

  waits : After (call_wait x now timeout v.key v.epoch v.offset)
  unfolding call_wait wait_with client.on_wait
  waits =
      by-test After (late_time now or late_time timeout) (λ p. refused _ x (k.nodes n))
      (λ p. by-test After (not (well_formed_header x)) (λ q. refused _ x (k.nodes n))
      (λ q. at_key w a.map.epoch n x b (k.nodes n) After v.key (wait_refused unknown_shard) (wait_held now timeout v.epoch v.offset)
      (refused unknown_shard x (k.nodes n)) (λ y h e hs same. at_held y h hs)))

  pub waited : Gently w (step.wait_for s now timeout (some v)) a
  unfolding step.wait_for call_wait
  waited = waits (wait_with_kept x (k.nodes n).formed (well_formed_header x) now timeout v.key v.epoch v.offset)

pub on_wait_lem : (w : World) (s : real.State) (a : State) → Sim w s a → (i now timeout : ℕ) → Gently w (step.on_wait s i now timeout) a
unfolding step.on_wait step.wait_for
on_wait_lem w s a k i now timeout = go (nth s.accepted i) refl
  where
    go : (o : Option real.Write) → nth s.accepted i ≡ o → Gently w (step.wait_for s now timeout o) a
    go none e = rests w _ a k
    go (some v) e = waited w s a k i v e now timeout
