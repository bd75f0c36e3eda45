-- Request 2.13: one request of the primary is followed through a round, whatever else happens: asked, then answered, then counted. It is not
-- lost, and no call refuses it; so when nothing is under way any more it has counted. Assumes nothing.
use Prim.Native.Nat.{ℕ, ◌≤◌}
use mathlib.Core.Path.{◌≡◌, refl, sym, ap, ◌∙◌, subst}
use mathlib.Core.Bool.{Bool, true, false, cond}
use mathlib.Core.Logic.{◌⊎◌, inl, inr}
use mathlib.Core.List.{List, [], ◌∷◌, ◌++◌}
use mathlib.Core.Option.{Option, none, some}
use native.Mathlib.Omega.{arith}
use lib.Dec.{eqb}
use borrow.Author.Tests.{eqb-true, eq-eqb}
use Rattle.spec.specs.Keys.{Key, same_key}
use Rattle.spec.specs.Lists.{◌and◌, ◌or◌, nth, every, find}
use Rattle.spec.specs.Map.Change.{holds}
use Rattle.spec.specs.Layout.Message.{Reply, decode_reply, encode_reply}
use Rattle.spec.specs.Node.Held as held
use Rattle.spec.specs.Node.Held.{Held}
use Rattle.spec.specs.Node.Shards.{of_node}
use Rattle.spec.specs.Node.Backup.{BackupAnswer, replied}
use Rattle.spec.specs.Node.Ack.{Sent, AckAnswer, noted, expand, ack_refused, record_ack, deed_of, bad_reply}
use Rattle.spec.specs.Node.Calls.{RequestAnswer, written, request_of, call_request, call_ack}
use Rattle.spec.specs.declared.Metric.{Metric}
use Rattle.spec.specs.declared.Peer.{Peer}
use Rattle.spec_laws.proofs.Lists.{by-test, not_both, and_left, and_right, some_same, nth-nil}
use Rattle.spec_laws.proofs.Map.Orders.{same_key_lem}
use Rattle.spec_laws.proofs.Map.Rows.{every_tail}
use Rattle.spec_run.specs.State as real
use Rattle.spec_run.specs.State.{at}
use Rattle.spec_run.specs.Step as step
use Rattle.spec_run.specs.Rules.{allowed, allowed_run}
use Rattle.spec_run.specs.Event.{
  Event,
  command,
  map_shown,
  lease_granted,
  client_writes,
  client_searches,
  node_waits,
  worker_steps,
  request_arrives,
  request_lost,
  request_repeats,
  reply_arrives,
  reply_lost,
  reply_repeats,
  offer_arrives,
  offer_lost,
  offer_times_out,
  outcome_arrives,
  outcome_lost,
  outcome_times_out,
}
use Rattle.thm_run.proofs.Protocol.State as proto
use Rattle.thm_run.proofs.Protocol.State.{Lead, lead, State}
use Rattle.thm_run.proofs.Protocol.Run.{Inv}
use Rattle.thm_run.proofs.Simulation.Relation.{World, Sim, RoleSim, LeadSim}
use Rattle.thm_run.proofs.Simulation.Steps.{Quiet, on_quiet}
use Rattle.thm_rounds.specs.Rounds.{Still, in_round, room_for, step_for, steps_for}
use Rattle.thm_rounds.proofs.Steady.{Scene, Steady, SteadyAt, Closed, steady_run}
use Rattle.thm_rounds.proofs.Peer.{Far}
use Rattle.thm_rounds.proofs.UnderWay.{Has, has_last, asked_stays, told_stays}
use Rattle.thm_rounds.proofs.Calls.{Counted, counts}

quiet_of : (e : Event) → in_round e ≡ true → Quiet e
quiet_of (command bytes) t = not_both false t refl
quiet_of (map_shown n fresh) t = not_both false t refl
quiet_of (lease_granted n i sent lease) t = tt
quiet_of (client_writes n now least bytes) t = not_both false t refl
quiet_of (client_searches n now room bytes) t = tt
quiet_of (node_waits i now timeout) t = tt
quiet_of (worker_steps n k epoch peer metric room) t = tt
quiet_of (request_arrives from to i) t = tt
quiet_of (request_lost from to i) t = tt
quiet_of (request_repeats from to i) t = tt
quiet_of (reply_arrives i) t = tt
quiet_of (reply_lost i) t = tt
quiet_of (reply_repeats i) t = tt
quiet_of (offer_arrives i index seq) t = tt
quiet_of (offer_lost i) t = tt
quiet_of (offer_times_out i) t = tt
quiet_of (outcome_arrives i) t = tt
quiet_of (outcome_lost i) t = tt
quiet_of (outcome_times_out i) t = tt

at_same : {A : Type 0} (f : ℕ → A) (n : ℕ) (x : A) → at f n x n ≡ x
unfolding at
at_same f n x = rw (eq-eqb n n refl) refl

module _ (c : Scene) where
  abbrev w : World
  w = c.world

  abbrev a : ℕ
  a = c.a

  abbrev p : ℕ
  p = c.p

  abbrev E : ℕ
  E = c.E

  -- a state of the run, and of the protocol, in which K holds of the primary's record
  pub record Now (K : Lead → Type 0) (s : real.State) : Type 0 where
    pub abstract : State
    pub related : Sim w s abstract
    pub kept : Inv abstract
    pub steady : SteadyAt c K abstract

  -- more is known of the record
  pub upgrade : (K M : Lead → Type 0) (s : real.State) (k : Now K s) → M k.steady.leads.0 → Now M s
  upgrade K M s k m = record {
    abstract = k.abstract;
    related = k.related;
    kept = k.kept;
    steady = record {
      log = k.steady.log;
      epochs = k.steady.epochs;
      leads = (k.steady.leads.0, k.steady.leads.1, k.steady.leads.2, m);
      asked = k.steady.asked;
      own = k.steady.own;
      told = k.steady.told;
    };
  }

  pub next : (K : Lead → Type 0) → Closed c K → (s : real.State) → Now K s → (e : Event) → in_round e ≡ true → allowed s e ≡ true → Now K (step.step s e)
  next K cl s k e q t =
      let r = on_quiet w s k.abstract k.related e (quiet_of e q) t in
      let z = steady_run c K cl k.abstract k.kept k.steady r.0 r.1 in
      record { abstract = proto.run k.abstract r.0; related = r.2; kept = z.1; steady = z.0 }

  -- an answer under way that counts at least `goal`, or aligns
  pub record Counts (by : Bool) (goal : ℕ) (q : real.Reply) : Type 0 where
    pub node : q.node ≡ a
    pub peer : q.peer ≡ p
    pub key : q.key ≡ w.key
    pub epoch : q.epoch ≡ E
    pub reply : Reply
    pub decoded : decode_reply q.bytes ≡ some reply
    pub plain : bad_reply reply ≡ false
    pub upto : ℕ
    pub deed : deed_of q.sent reply E ≡ record_ack upto by
    pub enough : by ≡ false → goal ≤ upto

  abbrev asking : List ℕ → real.Request
  asking bytes = record { sent = step.sent_of bytes; key = w.key; epoch = E; bytes = bytes }

  abbrev answering : real.Request → Reply → real.Reply
  answering q v = record { node = a; peer = p; sent = q.sent; key = q.key; epoch = q.epoch; bytes = encode_reply v }

  -- the kind of a round: `Before` holds at its start, `During` j once the request has been asked, Far goal at its end
  pub record Kind : Type 1 where
    pub Before : Lead → Type 0
    pub before : Closed c Before
    pub During : ℕ → Lead → Type 0
    pub during : (j : ℕ) → Closed c (During j)
    pub weaker : (j : ℕ) (l : Lead) → During j l → Before l
    pub by : Bool
    pub goal : ℕ
    pub after : Closed c (Far c goal)
    pub tied : by ≡ false → (l : Lead) → Before l → l.aligned p ≡ true
    pub none : by ≡ true → goal ≡ 0
    pub Asked : ℕ → real.Request → Type 0
    pub asks : (s : real.State) (k : Now Before s) (metric : Metric) (room : ℕ) → room_for room (request_of (s.nodes a) w.key E p metric) ≡ true
        → Far c goal k.steady.leads.0 ⊎ ((bytes : List ℕ) × (call_request (s.nodes a) room w.key E p metric ≡ written bytes)
        × (j : ℕ) × During j k.steady.leads.0 × Asked j (asking bytes))
    pub answers : (s : real.State) (j : ℕ) (k : Now (During j) s) (i : ℕ) (q : real.Request) → nth (s.requests a p) i ≡ some q → Asked j q
        → (v : Reply) × ((step.heard (s.nodes p) q.sent q.bytes).answer ≡ replied v) × Counts by goal (answering q v)

  module _ (holder : holds p w.holders ≡ true) (d : Kind) where
    abbrev Before : real.State → Type 0
    Before s = Now d.Before s

    abbrev pub Done : real.State → Type 0
    Done s = Now (Far c d.goal) s

    -- the request, or its answer, is under way, or it has counted
    pub data Later (s : real.State) : Type 0 where
      asked : (j : ℕ) → Now (d.During j) s → (q : real.Request) → Has (s.requests a p) q → d.Asked j q → Later s
      told : Before s → (q : real.Reply) → Has s.replies q → Counts d.by d.goal q → Later s
      done : Done s → Later s

    -- ---- asked

    posts : (s : real.State) (metric : Metric) (room : ℕ) (bytes : List ℕ) → call_request (s.nodes a) room w.key E p metric ≡ written bytes
        → Has ((step.step s (worker_steps a w.key E p metric room)).requests a p) (asking bytes)
    unfolding step.step step.on_work step.posted real.set_requests
    posts s metric room bytes e =
        subst (λ (r : RequestAnswer). Has ((step.posted s a w.key E p r).requests a p) (asking bytes)) (sym e)
        (subst (λ (l : List real.Request). Has l (asking bytes))
        (sym (ap (λ (f : ℕ → List real.Request). f p) (at_same s.requests a (at (s.requests a) p (s.requests a p ++ (asking bytes ∷ []))))
        ∙ at_same (s.requests a) p (s.requests a p ++ (asking bytes ∷ []))))
        (has_last (s.requests a p) (asking bytes)))

    first : (s : real.State) → Before s → (metric : Metric) (room : ℕ) → allowed s (worker_steps a w.key E p metric room) ≡ true
        → room_for room (request_of (s.nodes a) w.key E p metric) ≡ true → Later (step.step s (worker_steps a w.key E p metric room))
    first s k metric room t fit = go (d.asks s k metric room fit)
      where
        e : Event
        e = worker_steps a w.key E p metric room

        go : Far c d.goal k.steady.leads.0 ⊎ ((bytes : List ℕ) × (call_request (s.nodes a) room w.key E p metric ≡ written bytes)
            × (j : ℕ) × d.During j k.steady.leads.0 × d.Asked j (asking bytes)) → Later (step.step s (worker_steps a w.key E p metric room))
        go (inl f) =
            done (next (Far c d.goal) d.after s (upgrade d.Before (Far c d.goal) s k f) (worker_steps a w.key E p metric room) refl t)
        go (inr r) =
            asked r.2 (next (d.During r.2) (d.during r.2) s (upgrade d.Before (d.During r.2) s k r.3)
            (worker_steps a w.key E p metric room) refl t) (asking r.0) (posts s metric room r.0 r.1) r.4

    -- the worker's step, whichever event it is
    at-step : (s : real.State) → Before s → (e : Event) → allowed s e ≡ true → step_for w.key a E p s e ≡ true → Later (step.step s e)
    unfolding step_for
    at-step s k (command bytes) t z = not_both false z refl
    at-step s k (map_shown n fresh) t z = not_both false z refl
    at-step s k (lease_granted n i sent lease) t z = not_both false z refl
    at-step s k (client_writes n now least bytes) t z = not_both false z refl
    at-step s k (client_searches n now room bytes) t z = not_both false z refl
    at-step s k (node_waits i now timeout) t z = not_both false z refl
    at-step s k (worker_steps n key epoch peer metric room) t z =
        let z₁ = and_right (eqb n a) (same_key key w.key and eqb epoch E and eqb peer p and room_for room (request_of (s.nodes n) key epoch peer metric)) z in
        let z₂ = and_right (same_key key w.key) (eqb epoch E and eqb peer p and room_for room (request_of (s.nodes n) key epoch peer metric)) z₁ in
        let z₃ = and_right (eqb epoch E) (eqb peer p and room_for room (request_of (s.nodes n) key epoch peer metric)) z₂ in
        let e₁ = eqb-true n a (and_left (eqb n a) (same_key key w.key and eqb epoch E and eqb peer p and room_for room (request_of (s.nodes n) key epoch peer metric)) z) in
        let e₂ = same_key_lem key w.key (and_left (same_key key w.key) (eqb epoch E and eqb peer p and room_for room (request_of (s.nodes n) key epoch peer metric)) z₁) in
        let e₃ = eqb-true epoch E (and_left (eqb epoch E) (eqb peer p and room_for room (request_of (s.nodes n) key epoch peer metric)) z₂) in
        let e₄ = eqb-true peer p (and_left (eqb peer p) (room_for room (request_of (s.nodes n) key epoch peer metric)) z₃) in
        let P : ℕ → Key → ℕ → ℕ → Type 0 = λ b j f q. allowed s (worker_steps b j f q metric room) ≡ true
        → room_for room (request_of (s.nodes b) j f q metric) ≡ true → Later (step.step s (worker_steps b j f q metric room)) in
        subst (λ b. P b key epoch peer) (sym e₁)
        (subst (λ j. P a j epoch peer) (sym e₂)
        (subst (λ f. P a w.key f peer) (sym e₃)
        (subst (λ q. P a w.key E q) (sym e₄) (λ u fit. first s k metric room u fit)))) t
        (and_right (eqb peer p) (room_for room (request_of (s.nodes n) key epoch peer metric)) z₃)
    at-step s k (request_arrives from to i) t z = not_both false z refl
    at-step s k (request_lost from to i) t z = not_both false z refl
    at-step s k (request_repeats from to i) t z = not_both false z refl
    at-step s k (reply_arrives i) t z = not_both false z refl
    at-step s k (reply_lost i) t z = not_both false z refl
    at-step s k (reply_repeats i) t z = not_both false z refl
    at-step s k (offer_arrives i index seq) t z = not_both false z refl
    at-step s k (offer_lost i) t z = not_both false z refl
    at-step s k (offer_times_out i) t z = not_both false z refl
    at-step s k (outcome_arrives i) t z = not_both false z refl
    at-step s k (outcome_lost i) t z = not_both false z refl
    at-step s k (outcome_times_out i) t z = not_both false z refl

    -- ---- answered

    goes_back : (s : real.State) (i : ℕ) (q : real.Request) → nth (s.requests a p) i ≡ some q → (v : Reply)
        → (step.heard (s.nodes p) q.sent q.bytes).answer ≡ replied v → Has (step.step s (request_arrives a p i)).replies (answering q v)
    unfolding step.step step.on_arrival step.arrives step.answered real.set_replies real.set_requests real.set_node
    goes_back s i q found v e =
        let r = step.heard (s.nodes p) q.sent q.bytes in
        let u : real.State = real.set_requests (real.set_node s p r.after) a p (step.removed (s.requests a p) i) in
        subst (λ (o : Option real.Request). Has (step.arrives s a p i o).replies (answering q v)) (sym found)
        (subst (λ (z : BackupAnswer). Has (step.answered u a p q z).replies (answering q v)) (sym e) (has_last s.replies (answering q v)))

    -- ---- counted

    same_nodes : (t : real.State) (q : real.Reply) (v : AckAnswer) → (step.acked t q v).nodes ≡ t.nodes
    unfolding step.acked real.set_offers
    same_nodes t q noted = refl
    same_nodes t q expand = refl
    same_nodes t q (ack_refused r) = refl

    node-after : (s : real.State) (i : ℕ) (q : real.Reply) → nth s.replies i ≡ some q → q.node ≡ a
        → (step.step s (reply_arrives i)).nodes a ≡ (call_ack (s.nodes a) q.key q.epoch q.peer q.sent q.bytes).after
    unfolding step.step step.on_reply step.replies real.set_replies real.set_node
    node-after s i q found e =
        let r : ℕ → _ = λ n. call_ack (s.nodes n) q.key q.epoch q.peer q.sent q.bytes in
        ap (λ (o : Option real.Reply). (step.replies s i o).nodes a) found
        ∙ ap (λ (f : ℕ → held.Node). f a) (same_nodes _ q (r q.node).answer)
        ∙ ap (λ (n : ℕ). at s.nodes n (r n).after a) e ∙ at_same s.nodes a (r a).after

    -- what the row of the peer says, the record says
    read : (s : real.State) (k : Before s) (h : Held) → (s.nodes a).held ≡ h ∷ [] → (q : Peer) → find (of_node p) h.peers ≡ some q
        → (q.aligned ≡ k.steady.leads.0.aligned p) × (q.acked.0 ≡ k.steady.leads.0.acked p)
    read s k h is q found =
        let l = k.steady.leads.0 in
        let r = (k.related.nodes a).here c.mine in
        let g = r.0 in
        let both : g ∷ [] ≡ h ∷ [] = sym r.1 ∙ is in
        let same : g ≡ h = cc in
        let z : LeadSim w _ a g.role g.replica g.peers l = subst (RoleSim w _ a g.role g.replica g.peers) k.steady.leads.1 r.2.role in
        let row = z.rows.row p q (ap (λ (y : Held). find (of_node p) y.peers) same ∙ found) in
        (row.aligned, row.acked)

    arrived : (s : real.State) → Before s → (i : ℕ) (q : real.Reply) → nth s.replies i ≡ some q → Counts d.by d.goal q
        → Before (step.step s (reply_arrives i)) → Done (step.step s (reply_arrives i))
    arrived s k i q found v k' =
        let l = k.steady.leads.0 in
        let x = s.nodes a in
        let top = k.abstract.map.epoch in
        let b = k.abstract.nodes a in
        let P : held.Node → Type 0 = λ y. Counted w top a x b (k.related.nodes a) c.mine l k.steady.leads.1 E p k.steady.leads.2 holder
        (λ z. c.other (sym z)) q.sent v.reply v.plain v.upto d.by v.deed y in
        let n : P (call_ack x w.key E p q.sent q.bytes).after =
        counts w top a x b (k.related.nodes a) c.mine l k.steady.leads.1 E p k.steady.leads.2 holder (λ z. c.other (sym z))
        q.sent v.reply v.plain v.upto d.by v.deed (λ z. d.tied z l k.steady.leads.3) q.bytes v.decoded in
        let same : (call_ack x w.key E p q.sent q.bytes).after ≡ (step.step s (reply_arrives i)).nodes a =
        ap (λ (j : Key). (call_ack x j E p q.sent q.bytes).after) (sym v.key)
        ∙ ap (λ (e : ℕ). (call_ack x q.key e p q.sent q.bytes).after) (sym v.epoch)
        ∙ ap (λ (m : ℕ). (call_ack x q.key q.epoch m q.sent q.bytes).after) (sym v.peer)
        ∙ sym (node-after s i q found v.node) in
        let z : P ((step.step s (reply_arrives i)).nodes a) = subst P same n in
        let r = read (step.step s (reply_arrives i)) k' z.held z.only z.row z.found in
        upgrade d.Before (Far c d.goal) (step.step s (reply_arrives i)) k'
        (sym r.0 ∙ z.aligned, go d.by refl (k'.steady.leads.0.acked p) z.row.acked.0 r.1 z.acked)
      where
        go : (y : Bool) → d.by ≡ y → (n m : ℕ) → m ≡ n → (d.by ≡ false → v.upto ≤ m) → d.goal ≤ n
        go true e n m is up = let z = d.none e in omega arith
        go false e n m is up = let z = v.enough e in let u = up e in omega arith

    -- ---- a round

    before_on : (s : real.State) → Before s → (e : Event) → in_round e ≡ true → allowed s e ≡ true → Before (step.step s e)
    before_on s k e q t = next d.Before d.before s k e q t

    later_on : (s : real.State) → Later s → (e : Event) → in_round e ≡ true → allowed s e ≡ true → Later (step.step s e)
    later_on s (done k) e q t = done (next (Far c d.goal) d.after s k e q t)
    later_on s (asked j k r h v) e q t = go (asked_stays a p s h.0 r h.1 e q)
      where
        go : (e ≡ request_arrives a p h.0) ⊎ Has ((step.step s e).requests a p) r → Later (step.step s e)
        go (inr g) = asked j (next (d.During j) (d.during j) s k e q t) r g v
        go (inl is) =
            let n = d.answers s j k h.0 r h.1 v in
            let m = next (d.During j) (d.during j) s k e q t in
            told (upgrade (d.During j) d.Before (step.step s e) m (d.weaker j m.steady.leads.0 m.steady.leads.3))
            (answering r n.0) (subst (λ (y : Event). Has (step.step s y).replies (answering r n.0)) (sym is) (goes_back s h.0 r h.1 n.0 n.1)) n.2
    later_on s (told k r h v) e q t = go (told_stays s h.0 r h.1 e q)
      where
        go : (e ≡ reply_arrives h.0) ⊎ Has (step.step s e).replies r → Later (step.step s e)
        go (inr g) = told (before_on s k e q t) r g v
        go (inl is) =
            subst (λ (y : Event). Later (step.step s y)) (sym is)
            (done (arrived s k h.0 r h.1 v (subst (λ (y : Event). Before (step.step s y)) is (before_on s k e q t))))

    later_run : (es : List Event) (s : real.State) → Later s → every in_round es ≡ true → allowed_run s es ≡ true → Later (step.run s es)
    unfolding step.run allowed_run
    later_run [] s k q t = k
    later_run (e ∷ es) s k q t =
        let y = every_tail in_round e es q in
        later_run es (step.step s e) (later_on s k e y.0 (and_left (allowed s e) (allowed_run (step.step s e) es) t)) y.1
        (and_right (allowed s e) (allowed_run (step.step s e) es) t)

    runs : (es : List Event) (s : real.State) → Before s → every in_round es ≡ true → allowed_run s es ≡ true → steps_for w.key a E p s es ≡ true
        → Later (step.run s es)
    unfolding step.run allowed_run steps_for ◌or◌
    runs [] s k q t z = not_both false z refl
    runs (e ∷ es) s k q t z =
        let y = every_tail in_round e es q in
        let u = and_left (allowed s e) (allowed_run (step.step s e) es) t in
        let v = and_right (allowed s e) (allowed_run (step.step s e) es) t in
        go (step_for w.key a E p s e) refl y u v (λ x. runs es (step.step s e) (before_on s k e y.0 u) y.1 v x) z
      where
        go : (b : Bool) → step_for w.key a E p s e ≡ b → (in_round e ≡ true) × (every in_round es ≡ true) → allowed s e ≡ true
            → allowed_run (step.step s e) es ≡ true → (steps_for w.key a E p (step.step s e) es ≡ true → Later (step.run (step.step s e) es))
            → (b or steps_for w.key a E p (step.step s e) es) ≡ true → Later (step.run (step.step s e) es)
        go true x y u v more z = later_run es (step.step s e) (at-step s k e u x) y.1 v
        go false x y u v more z = more z

    -- nothing is under way any more
    ended : (s : real.State) → Still s → Later s → Done s
    ended s still (done k) = k
    ended s still (asked j k q h v) = nth-nil h.0 q (ap (λ (l : List real.Request). nth l h.0) (sym (still.requests a p)) ∙ h.1)
    ended s still (told k q h v) = nth-nil h.0 q (ap (λ (l : List real.Reply). nth l h.0) (sym still.replies) ∙ h.1)

    pub round : (es : List Event) (s : real.State) → Now d.Before s → every in_round es ≡ true → allowed_run s es ≡ true
        → steps_for w.key a E p s es ≡ true → Still (step.run s es) → Now (Far c d.goal) (step.run s es)
    round es s k q t z still = ended (step.run s es) still (runs es s k q t z)
