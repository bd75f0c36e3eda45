-- Paper 01, 'Rules of a run', 'Messages': a reply that arrives is an Ack for the step it answers. It counts in the protocol, and where the
-- peer joins the ack set, the joining follows. Assumes nothing.
use Prim.Native.Nat.{ℕ, ◌+◌, ◌≤◌, min, max}
use mathlib.Core.Path.{◌≡◌, refl, sym, ap, ◌∙◌, subst, fun_ext}
use mathlib.Core.Bool.{Bool, true, false, cond, not}
use mathlib.Core.List.{List, [], ◌∷◌, ◌++◌, map}
use mathlib.Core.Option.{Option, none, some}
use lib.Dec.{eqb, leb, ltb}
use lib.ListN.{length}
use borrow.Author.Tests.{not-true}
use Rattle.spec.specs.Lists.{◌and◌, ◌or◌, nth, find}
use Rattle.spec.specs.Log.{ShardReplica, last_offset}
use Rattle.spec.specs.Refusals.{Refusal}
use Rattle.spec.specs.Map.Apply.{update}
use Rattle.spec.specs.Map.Change.{holds}
use Rattle.spec.specs.Layout.Message as message
use Rattle.spec.specs.Node.Held as held
use Rattle.spec.specs.Node.Held.{Held}
use Rattle.spec.specs.Node.Shards.{Result, gives, leads_at, with_held, with_peers, of_node, demoted}
use Rattle.spec.specs.Node.Ack as ack
use Rattle.spec.specs.Node.Ack.{AckAnswer, noted, expand, ack_refused, bad_reply, Deed, nothing, step_down, unalign, record_ack, acked_through, caught_up, joins, ack_row, unaligned, on_row, do_deed, deed_at, ack_held, on_ack}
use Rattle.spec.specs.Node.Calls.{ack_of, ack_with, call_ack}
use Rattle.spec.specs.Node.WellFormed.{well_formed_header}
use Rattle.spec.specs.declared.Peer.{Peer}
use Rattle.spec_laws.proofs.Lists.{by-test, and_true, and_left, and_right}
use Rattle.spec_laws.proofs.Node.Formed.{FormedNode}
use Rattle.spec_laws.proofs.Node.KeptCalls.{ack_with_kept}
use Rattle.spec_run.specs.State as real
use Rattle.spec_run.specs.Step as step
use Rattle.thm_run.proofs.Protocol.Base.{All, all_snoc, all-nth, upd, upd_same}
use Rattle.thm_run.proofs.Protocol.Sets.{member}
use Rattle.thm_run.proofs.Protocol.State as proto
use Rattle.thm_run.proofs.Protocol.State.{Lead, Role, backup, lead, Node, State, Answer, adopts, stores, stale_align, stale_send, Reply, with_role, with_peer, with_ack, counting, joining}
use Rattle.thm_run.proofs.Simulation.Lists.{all-removed, map_join}
use Rattle.thm_run.proofs.Simulation.Relation.{World, RowsSim, LeadSim, HeldSim, NodeSim, ReplySim, OfferFits, proposal_of, deed_for, Sim}
use Rattle.thm_run.proofs.Simulation.Frame.{Gently, rests, gently, then_gently, on-node, on-nodes, on-replies, on_offers}
use Rattle.thm_run.proofs.Simulation.Rows.{row_holder, loose-rows, ack_rows, join_rows, or_no, or_yes}
use Rattle.thm_run.proofs.Simulation.AtNode.{leads, lead-at, at_key, node-with}

-- a place changed twice
upd-twice : {A : Type 0} (f : ℕ → A) (n : ℕ) (x y : A) → upd (upd f n x) n y ≡ upd f n y
unfolding upd
upd-twice f n x y = fun_ext (λ m. go m (eqb m n))
  where
    go : (m : ℕ) (t : Bool) → cond t y (cond t x (f m)) ≡ cond t y (f m)
    go m true = refl
    go m false = refl

module _ (w : World) (s : real.State) (a : State) (k : Sim w s a) (i : ℕ) (q : real.Reply) (found : nth s.replies i ≡ some q) where
  abbrev n : ℕ
  n = q.node

  abbrev x : held.Node
  x = s.nodes n

  abbrev b : Node
  b = a.nodes n

  abbrev top : ℕ
  top = a.map.epoch

  abbrev rest : List real.Reply
  rest = step.removed s.replies i

  rs : ReplySim w a.replies q
  rs = all-nth (ReplySim w a.replies) s.replies i q k.replies found

  -- the protocol's reply
  abbrev r : Reply
  r = record { node = n; peer = q.peer; epoch = q.epoch; answer = rs.answer }

  left : All (ReplySim w a.replies) rest
  left = all-removed (ReplySim w a.replies) s.replies i k.replies

  abbrev next : held.Node → real.State
  next y = real.set_replies (real.set_node s n y) rest

  abbrev After : Result AckAnswer held.Node → Type 0
  After v = FormedNode v.after → Gently w (step.acked (next v.after) q v.answer) a

  -- nothing happens
  quiet : (y : held.Node) → NodeSim w top n y b → Sim w (next y) a
  quiet y h = on-replies w (real.set_node s n y) a (on-node w s a k n y h) rest left

  refused : (why : Refusal) (y : held.Node) → NodeSim w top n y b → After (record { answer = ack_refused why; after = y })
  unfolding step.acked
  refused why y h f = rests w _ a (quiet y h)

  still : (y : held.Node) → NodeSim w top n y b → After (record { answer = noted; after = y })
  unfolding step.acked
  still y h f = rests w _ a (quiet y h)

  module _ (y : holds n w.holders ≡ true) (h : Held) (hs : HeldSim w top n h b) where
    abbrev AfterHeld : Result AckAnswer Held → Type 0
    AfterHeld v = FormedNode (with_held x (v.after ∷ [])) → Gently w (step.acked (next (with_held x (v.after ∷ []))) q v.answer) a

    same : FormedNode (with_held x (h ∷ [])) → NodeSim w top n (with_held x (h ∷ [])) b
    same f = node-with w top n x b (k.nodes n) b h y f hs

    module _ (l : Lead) (is : b.role ≡ lead l) (c : LeadSim w top n h.role h.replica h.peers l) (at-epoch : l.epoch ≡ q.epoch) where
      abbrev last : ℕ
      last = last_offset h.replica

      -- the reply counts
      counted : (role : Role) → proto.counted_as l last q.peer rs.answer ≡ role
          → proto.step a (counting rs.place) ≡ proto.set_node a n (with_role b role)
      unfolding proto.step proto.on_count proto.count_as proto.count_role
      counted role e =
          ap (proto.count_as a) rs.found ∙ ap (proto.count_role a r) (lead-at b.role l q.epoch is at-epoch)
          ∙ ap (λ (v : ShardReplica). proto.set_node a n (with_role b (proto.counted_as l (length v.log) q.peer rs.answer))) (sym hs.replica)
          ∙ ap (λ (v : Role). proto.set_node a n (with_role b v)) e

      -- the states after it counted
      counts : (h' : Held) (role : Role) → HeldSim w top n h' (with_role b role) → FormedNode (with_held x (h' ∷ []))
          → Sim w (next (with_held x (h' ∷ []))) (proto.set_node a n (with_role b role))
      unfolding proto.set_node
      counts h' role u f =
          on-replies w (real.set_node s n (with_held x (h' ∷ []))) (proto.set_node a n (with_role b role))
          (on-nodes w s a k n (with_held x (h' ∷ [])) (with_role b role) (node-with w top n x b (k.nodes n) (with_role b role) h' y f u)) rest left

      takes : (h' : Held) (role : Role) → proto.counted_as l last q.peer rs.answer ≡ role → HeldSim w top n h' (with_role b role)
          → AfterHeld (gives noted h')
      unfolding step.acked
      takes h' role e u f = gently w _ a (counting rs.place) tt (subst (Sim w _) (sym (counted role e)) (counts h' role u f))

      -- a record with other numbers of this peer
      with-peer : (u : ℕ) (t : Bool) (rows : List Peer) → RowsSim w n (with_peer l q.peer u t) rows
          → HeldSim w top n (with_peers h rows) (with_role b (lead (with_peer l q.peer u t)))
      unfolding proto.with_role proto.with_peer
      with-peer u t rows v = record {
        key = hs.key;
        holders = hs.holders;
        replica = hs.replica;
        fits = hs.fits;
        role = record { role = c.role; epoch = c.epoch; end = c.end; table = c.table; upto = c.upto; rows = v };
      }

      with_ack_lem : (u : ℕ) (t : Bool) (rows : List Peer) → RowsSim w n (with_ack (with_peer l q.peer u t) (q.peer ∷ l.ack)) rows
          → HeldSim w top n (with_peers h rows) (with_role b (lead (with_ack (with_peer l q.peer u t) (q.peer ∷ l.ack))))
      unfolding proto.with_role proto.with_peer proto.with_ack
      with_ack_lem u t rows v = record {
        key = hs.key;
        holders = hs.holders;
        replica = hs.replica;
        fits = hs.fits;
        role = record { role = c.role; epoch = c.epoch; end = c.end; table = c.table; upto = c.upto; rows = v };
      }

      steps_down : proto.counted_as l last q.peer rs.answer ≡ backup → AfterHeld (gives noted (demoted h))
      unfolding proto.with_role
      steps_down e =
          takes (demoted h) backup e (record { key = hs.key; holders = hs.holders; replica = hs.replica; fits = hs.fits; role = refl })

      loosens : proto.counted_as l last q.peer rs.answer ≡ lead (with_peer l q.peer (l.acked q.peer) false)
          → AfterHeld (gives noted (on_row h q.peer unaligned))
      loosens e = takes (on_row h q.peer unaligned) (lead (with_peer l q.peer (l.acked q.peer) false)) e
          (with-peer (l.acked q.peer) false (update (of_node q.peer) unaligned h.peers) (loose-rows w n l h.peers c.rows q.peer))

      -- an ack is recorded
      module _ (p : Peer) (here : find (of_node q.peer) h.peers ≡ some p) (t : ℕ) (by : Bool) (u : ℕ) (g : Bool)
          (much : acked_through last t by p ≡ u) (so : (p.aligned or by) ≡ g)
          (e : proto.counted_as l last q.peer rs.answer ≡ lead (with_peer l q.peer u g)) (positive : proto.is_positive rs.answer ≡ true) where
        abbrev h' : Held
        h' = on_row h q.peer (ack_row last t by)

        abbrev l₁ : Lead
        l₁ = with_peer l q.peer u g

        abbrev l₂ : Lead
        l₂ = with_ack l₁ (q.peer ∷ l.ack)

        alone : joins last t by p ≡ false → AfterHeld (gives noted h')
        alone j =
            takes h' (lead l₁) e
            (with-peer u g (update (of_node q.peer) (ack_row last t by) h.peers)
            (ack_rows w n l h.peers c.rows q.peer last t by u g p here much so j))

        -- the test of the joining, after the ack was recorded
        may : joins last t by p ≡ true → proto.may_join l₁ (length b.replica.log) r ≡ true
        unfolding joins proto.may_join proto.with_peer
        may j =
            let j₁ = and_left (caught_up last t by p) (not p.member and not p.proposing) j in
            let j₂ = and_left (not p.member) (not p.proposing) (and_right (caught_up last t by p) (not p.member and not p.proposing) j) in
            let up : leb (length b.replica.log) (upd l.acked q.peer u q.peer) ≡ true =
            ap (λ (z : ℕ). leb (length b.replica.log) z) (upd_same l.acked q.peer u ∙ sym much)
            ∙ ap (λ (v : ShardReplica). leb (length v.log) (acked_through last t by p)) (sym hs.replica) ∙ j₁ in
            let out : member q.peer l.ack ≡ false = sym (c.rows.row q.peer p here).joined ∙ not-true p.member j₂ in
            and_true (proto.is_positive rs.answer) _ positive
            (and_true (leb (length b.replica.log) (upd l.acked q.peer u q.peer)) _ up (rw out))

        abbrev b₁ : Node
        b₁ = with_role b (lead l₁)

        abbrev b₂ : Node
        b₂ = with_role b (lead l₂)

        abbrev a₁ : State
        a₁ = proto.set_node a n b₁

        abbrev o : real.Offer
        o = record { node = n; key = q.key; peer = q.peer; epoch = q.epoch; what = ack.grow; awaited = true }

        abbrev ps : List proto.Proposal
        ps = a.proposals ++ (proposal_of w o ∷ [])

        -- the joining, of the state after the ack was recorded
        joins_to : joins last t by p ≡ true → proto.step a₁ (joining rs.place) ≡ proto.set_proposals (proto.set_node a n b₂) ps
        unfolding proto.step proto.on_join proto.join_as proto.join_lead proto.set_node proto.with_role proto.with_peer proto.with_ack proto.set_proposals
        joins_to j =
            let first : a₁.nodes n ≡ b₁ = upd_same a.nodes n b₁ in
            let after : Node → List proto.Proposal → State = λ z v. proto.set_proposals (proto.set_node a₁ n (with_role z (lead l₂))) v in
            let more : ℕ → List proto.Proposal = λ d. a.proposals ++ (record { node = n; expand = true; peer = q.peer; epoch = d } ∷ []) in
            ap (proto.join_as a₁) rs.found
            ∙ ap (proto.join_lead a₁ r) (lead-at (a₁.nodes n).role l₁ q.epoch (ap (λ (z : Node). z.role) first) at-epoch)
            ∙ ap (λ (z : Node). cond (proto.may_join l₁ (length z.replica.log) r) (after z (more l.epoch)) a₁) first
            ∙ ap (λ (z : Bool). cond z (after b₁ (more l.epoch)) a₁) (may j)
            ∙ ap (λ (d : ℕ). after b₁ (more d)) at-epoch
            ∙ ap (λ (z : ℕ → Node). proto.set_proposals (record {
              map = a.map;
              nodes = z;
              requests = a.requests;
              replies = a.replies;
              proposals = a.proposals;
              outcomes = a.outcomes;
              accepted = a.accepted;
              acknowledged = a.acknowledged;
            }) ps) (upd-twice a.nodes n b₁ b₂)

        joined : joins last t by p ≡ true → AfterHeld (gives expand h')
        unfolding step.acked real.set_replies real.set_node proto.set_node
        joined j f =
            let sim = counts h' (lead l₂)
            (with_ack_lem u g (update (of_node q.peer) (ack_row last t by) h.peers)
            (join_rows w n l h.peers c.rows q.peer last t by u g p here much so j)) f in
            let fits : OfferFits w top o = record {
              key = rs.key;
              peer = w.ids q.peer (row_holder w n l h.peers c.rows q.peer p here);
              upto = subst (λ (d : ℕ). d ≤ top) at-epoch c.upto;
            } in
            let sim₂ = on_offers w (next (with_held x (h' ∷ []))) (proto.set_node a n b₂) sim (s.offers ++ (o ∷ [])) ps
            (map_join (proposal_of w) s.offers (o ∷ []) ∙ ap (λ (z : List proto.Proposal). z ++ (proposal_of w o ∷ [])) k.offers)
            (all_snoc (OfferFits w top) s.offers o k.offered fits) in
            then_gently w _ a (counting rs.place) tt
            (subst (Gently w _) (sym (counted (lead l₁) e)) (gently w _ a₁ (joining rs.place) tt (subst (Sim w _) (sym (joins_to j)) sim₂)))

        records : AfterHeld (do_deed h q.peer p (record_ack t by))
        unfolding do_deed
        records =
            by-test (λ (z : AckAnswer). AfterHeld (gives z h')) (joins last t by p) (λ j. joined j) (λ j. alone j)

      -- the role with the peer to be aligned anew
      abbrev loose : Role
      loose = lead (with_peer l q.peer (l.acked q.peer) false)

      -- what each answer makes of the shard
      answers : (p : Peer) → find (of_node q.peer) h.peers ≡ some p → (v : Answer) → rs.answer ≡ v
          → AfterHeld (do_deed h q.peer p (deed_for w v q.epoch))
      unfolding acked_through proto.counted_as proto.is_positive do_deed
      answers p here (adopts t) e =
          records p here t true (min t last) true refl (or_yes p.aligned) (ap (proto.counted_as l last q.peer) e) (ap proto.is_positive e)
      answers p here (stores t) e =
          let row = c.rows.row q.peer p here in
          records p here t false (max (l.acked q.peer) t) (l.aligned q.peer) (ap (λ (z : ℕ). max z t) row.acked)
          (or_no p.aligned ∙ row.aligned) (ap (proto.counted_as l last q.peer) e) (ap proto.is_positive e)
      answers p here (stale_align z) e = go (ltb q.epoch z) refl
        where
          stale : proto.counted_as l last q.peer rs.answer ≡ cond (ltb q.epoch z) backup (lead l)
          stale = ap (proto.counted_as l last q.peer) e ∙ ap (λ (d : ℕ). cond (ltb d z) backup (lead l)) at-epoch

          go : (t : Bool) → ltb q.epoch z ≡ t → AfterHeld (do_deed h q.peer p (cond t step_down nothing))
          go true t = steps_down (stale ∙ ap (λ (v : Bool). cond v backup (lead l)) t)
          go false t = λ f. still (with_held x (h ∷ [])) (same f) f
      answers p here (stale_send z) e = go (ltb q.epoch z) refl
        where
          stale : proto.counted_as l last q.peer rs.answer ≡ cond (ltb q.epoch z) backup loose
          stale = ap (proto.counted_as l last q.peer) e ∙ ap (λ (d : ℕ). cond (ltb d z) backup loose) at-epoch

          go : (t : Bool) → ltb q.epoch z ≡ t → AfterHeld (do_deed h q.peer p (cond t step_down unalign))
          go true t = steps_down (stale ∙ ap (λ (v : Bool). cond v backup loose) t)
          go false t = loosens (stale ∙ ap (λ (v : Bool). cond v backup loose) t)

    at_held : AfterHeld (ack_held q.epoch q.peer q.sent rs.message h)
    unfolding ack_held
    at_held =
        by-test AfterHeld (leads_at h.role q.epoch)
        (λ t. let c = leads w top n h.role h.replica h.peers b.role hs.role q.epoch t in
        subst (λ (d : Deed). AfterHeld (deed_at h q.peer d (find (of_node q.peer) h.peers))) (sym (rs.deed q.epoch))
        (go c.0 c.1 c.2 c.3 (find (of_node q.peer) h.peers) refl))
        (λ t f. still (with_held x (h ∷ [])) (same f) f)
      where
        go : (l : Lead) → b.role ≡ lead l → LeadSim w top n h.role h.replica h.peers l → l.epoch ≡ q.epoch
            → (o : Option Peer) → find (of_node q.peer) h.peers ≡ o → AfterHeld (deed_at h q.peer (deed_for w rs.answer q.epoch) o)
        go l is c e none here = λ f. refused _ (with_held x (h ∷ [])) (same f) f
        go l is c e (some p) here = answers l is c e p here rs.answer refl

  acks : After (call_ack x q.key q.epoch q.peer q.sent q.bytes)
  unfolding call_ack ack_with on_ack
  acks =
      subst (λ (o : Option message.Reply). After (ack_of (well_formed_header x) x q.key q.epoch q.peer q.sent o)) (sym rs.decoded)
      (by-test After (bad_reply rs.message) (λ p. refused _ x (k.nodes n))
      (λ p. by-test After (not (well_formed_header x)) (λ t. refused _ x (k.nodes n))
      (λ t. by-test After (bad_reply rs.message) (λ u. refused _ x (k.nodes n))
      (λ u. at_key w top n x b (k.nodes n) After q.key noted (ack_held q.epoch q.peer q.sent rs.message)
      (still x (k.nodes n)) (λ y h e hs same. at_held y h hs)))))

  pub replied : Gently w (step.replies s i (some q)) a
  unfolding step.replies call_ack
  replied = acks (ack_with_kept x (k.nodes n).formed (well_formed_header x) q.key q.epoch q.peer q.sent q.bytes)

pub on-reply : (w : World) (s : real.State) (a : State) → Sim w s a → (i : ℕ) → Gently w (step.on_reply s i) a
unfolding step.on_reply step.replies
on-reply w s a k i = go (nth s.replies i) refl
  where
    go : (o : Option real.Reply) → nth s.replies i ≡ o → Gently w (step.replies s i o) a
    go none e = rests w _ a k
    go (some q) e = replied w s a k i q e
