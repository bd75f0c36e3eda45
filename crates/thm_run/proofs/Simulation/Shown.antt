-- Paper 01, 'Rules of a run', 'At a node': the map of that moment is shown. A holder is alive in it under its own incarnation, so none
-- starts over and none drops the shard; who is no holder holds nothing. Assumes nothing.
use Prim.Native.Nat.{ℕ}
use mathlib.Core.Path.{◌≡◌, refl, sym, ap, ◌∙◌, subst}
use mathlib.Core.Bool.{Bool, true, false, cond, not}
use mathlib.Core.List.{List, [], ◌∷◌, map}
use mathlib.Core.Option.{Option, none, some}
use lib.Dec.{eqb, leb, ltb}
use borrow.Author.Tests.{not-true}
use Rattle.spec.specs.Keys.{Key}
use Rattle.spec.specs.Lists.{◌and◌, ◌or◌, any, find}
use Rattle.spec.specs.Log.{ShardReplica}
use Rattle.spec.specs.Map.Tables as tables
use Rattle.spec.specs.Map.Tables.{Collection, ShardInfo}
use Rattle.spec.specs.Map.Change.{holds}
use Rattle.spec.specs.Map.WellFormed.{well_formed_map}
use Rattle.spec.specs.Node.Held as held
use Rattle.spec.specs.Node.Held.{Held, empty_node}
use Rattle.spec.specs.Node.Shards.{Result, held_shard, leads_at, demoted}
use Rattle.spec.specs.Node.Shown.{ShownAnswer, Showing, listed_as, collection_metric, metric_of, named, refreshed, promotes, promoted_to, kept_as, show_held, show_listed, show_shard, or_not, showings, held_of, too_many, take_map, dead_as, on_map, is_primary}
use Rattle.spec.specs.Node.Calls.{shown_with, call_shown}
use Rattle.spec.specs.Node.WellFormed.{well_formed_header}
use Rattle.spec.specs.declared.Metric.{Metric}
use Rattle.spec.specs.declared.Replica.{Replica}
use Rattle.spec.specs.declared.Peer.{Peer}
use Rattle.spec.specs.declared.Role as role
use Rattle.spec_laws.proofs.Lists.{by-test, not_both, and_left, and_right}
use Rattle.spec_laws.proofs.Node.Formed.{FormedNode, node-formed, formed-node}
use Rattle.spec_laws.proofs.Node.KeptCalls.{call_shown_kept}
use Rattle.spec_run.specs.State as real
use Rattle.spec_run.specs.Step as step
use Rattle.spec_run.specs.Fresh.{proper_id}
use Rattle.spec_run.proofs.Ids.{holder_id, other-id}
use Rattle.thm_run.proofs.Protocol.State as proto
use Rattle.thm_run.proofs.Protocol.State.{Map, Role, backup, lead, Node, State, lead_at, leader, with_role, showing}
use Rattle.thm_run.proofs.Simulation.Relation.{World, dead_row, MapSim, RoleSim, HeldSim, NodeSim, Sim}
use Rattle.thm_run.proofs.Simulation.Frame.{Reaches, stays, moves, on-node, on-nodes}
use Rattle.thm_run.proofs.Simulation.AtNode.{shard-found}
use Rattle.thm_run.proofs.Simulation.ShownShard.{demoted_sim, promoted_sim, kept_sim}

-- who is no holder is not listed
pub not_listed : (n incarnation : ℕ) (rs : List Replica) → holds n rs ≡ false → any (listed_as n incarnation) rs ≡ false
unfolding holds any ◌and◌
not_listed n incarnation [] h = refl
not_listed n incarnation (r ∷ rs) h = go (eqb r.node.0 n) h (not_listed n incarnation rs)
  where
    go : (b : Bool) → cond b true (any (λ (q : Replica). eqb q.node.0 n) rs) ≡ false
        → (any (λ (q : Replica). eqb q.node.0 n) rs ≡ false → any (listed_as n incarnation) rs ≡ false)
        → cond (b and eqb r.incarnation incarnation) true (any (listed_as n incarnation) rs) ≡ false
    go true e f = not_both true refl e
    go false e f = f e

-- who does not pass the test of an epoch has no record of it
no_lead : (w : World) (top n : ℕ) (r : role.Role) (s : ShardReplica) (ps : List Peer) (b : Role) → RoleSim w top n r s ps b → (e : ℕ)
    → leads_at r e ≡ false → lead_at b e ≡ none
unfolding lead_at
no_lead w top n r s ps backup k e t = refl
no_lead w top n r s ps (lead l) k e t =
    let u : eqb l.epoch e ≡ false = sym (ap (λ (v : role.Role). leads_at v e) k.role) ∙ t in
    rw u

-- ---- what a node makes of the map's one shard

module _ (w : World) (m : tables.Map) (am : Map) (t : MapSim w m am) (x : held.Node) (n : ℕ) where
  -- who is no holder: nothing
  pub shows_none : holds x.id w.holders ≡ false → showings x m m.shards ≡ []
  unfolding showings show_shard
  shows_none h =
      let u : any (listed_as x.id x.incarnation) t.shard.replicas ≡ false =
      ap (λ (rs : List Replica). any (listed_as x.id x.incarnation) rs) t.replicas ∙ not_listed x.id x.incarnation w.holders h in
      ap (showings x m) t.only ∙ rw u

  -- a holder: the one that it holds, or one that begins
  pub shows_one : x.id ≡ n → any (listed_as n x.incarnation) w.holders ≡ true
      → showings x m m.shards ≡ or_not (show_listed n t.shard (some w.metric) (held_shard x w.key)) []
  unfolding showings show_shard
  shows_one id h =
      let u : any (listed_as x.id x.incarnation) t.shard.replicas ≡ true =
      ap (λ (z : ℕ). any (listed_as z x.incarnation) t.shard.replicas) id
      ∙ ap (λ (rs : List Replica). any (listed_as n x.incarnation) rs) t.replicas ∙ h in
      let c : collection_metric m t.shard.key.collection ≡ some w.metric =
      ap (λ (k : Key). collection_metric m k.collection) t.key
      ∙ ap (λ (cs : List Collection). metric_of (find (named w.key.collection) cs)) t.collections ∙ w.measured in
      ap (showings x m) t.only
      ∙ ap (λ (z : Bool). or_not (cond z (show_listed x.id t.shard (collection_metric m t.shard.key.collection)
      (held_shard x t.shard.key)) none) []) u
      ∙ ap (λ (z : ℕ). or_not (show_listed z t.shard (collection_metric m t.shard.key.collection) (held_shard x t.shard.key)) []) id
      ∙ ap (λ (z : Option Metric). or_not (show_listed n t.shard z (held_shard x t.shard.key)) []) c
      ∙ ap (λ (z : Key). or_not (show_listed n t.shard (some w.metric) (held_shard x z)) []) t.key

module _ (w : World) (s : real.State) (a : State) (k : Sim w s a) (n : ℕ) where
  abbrev x : held.Node
  x = s.nodes n

  abbrev b : Node
  b = a.nodes n

  abbrev top : ℕ
  top = a.map.epoch

  abbrev m : tables.Map
  m = s.map

  abbrev After : held.Node → Type 0
  After y = FormedNode y → Reaches w (real.set_node s n y) a

  quiet : (y : held.Node) → NodeSim w top n y b → Reaches w (real.set_node s n y) a
  quiet y h = stays w _ a (on-node w s a k n y h)

  -- the node that has taken the map, holding these
  abbrev taken : List Held → held.Node
  taken l = record { id = x.id; incarnation = x.incarnation; expiry = x.expiry; version = m.version; held = l }

  -- ---- who is no holder

  module _ (out : holds n w.holders ≡ false) where
    apart : holds x.id w.holders ≡ false
    apart = other-id w.holders n x.id out (k.nodes n).id

    nothing : (y : held.Node) → y.id ≡ x.id → y.held ≡ [] → After y
    nothing y i e f =
        quiet y
        (record {
          id = ap (proper_id w.holders n) i ∙ (k.nodes n).id;
          formed = f;
          here = λ z. not_both (holds n w.holders) z out;
          gone = λ z. e;
          listed = λ z. not_both (holds n w.holders) z out;
        })

    outside : (fresh : ℕ) → After (on_map x fresh m).after
    unfolding on_map take_map
    outside fresh =
        let P : Result ShownAnswer held.Node → Type 0 = λ v. After v.after in
        by-test P (ltb m.version x.version) (λ p f. quiet x (k.nodes n))
        (λ p. by-test P (any (dead_as x) m.nodes) (λ q. nothing (empty_node x.id fresh) refl refl)
        (λ q. by-test P (too_many (showings x m m.shards)) (λ u f. quiet x (k.nodes n))
        (λ u. nothing (taken (map held_of (showings x m m.shards))) refl
        (ap (map held_of) (shows_none w m a.map k.table x n apart)))))

  -- ---- a holder

  module _ (y : holds n w.holders ≡ true) where
    own : x.id ≡ n
    own = holder_id w.holders n x.id y (k.nodes n).id

    h : Held
    h = ((k.nodes n).here y).0

    hs : HeldSim w top n ((k.nodes n).here y).0 b
    hs = ((k.nodes n).here y).2

    node_of_lem : (c : Node) (h' : Held) → FormedNode (taken (h' ∷ [])) → HeldSim w top n h' c → NodeSim w top n (taken (h' ∷ [])) c
    node_of_lem c h' f u = record {
      id = (k.nodes n).id;
      formed = f;
      here = λ z. (h', refl, u);
      gone = λ z. not_both (holds n w.holders) y z;
      listed = (k.nodes n).listed;
    }

    -- the protocol's move, by the tests that the node makes
    becomes : (h' : Held) (c : Node) → HeldSim w top n h' c → proto.step a (showing n) ≡ proto.set_node a n c → After (taken (h' ∷ []))
    becomes h' c u moved f = moves w _ a (showing n) (subst (Sim w _) (sym moved) (on-nodes w s a k n (taken (h' ∷ [])) c (node_of_lem c h' f u)))

    abbrev i : ShardInfo
    i = k.table.shard

    steps_down : eqb a.map.primary n ≡ false → After (taken (demoted (refreshed i h) ∷ []))
    unfolding proto.step proto.on_show h
    steps_down p =
        becomes (demoted (refreshed i h)) (with_role b backup)
        (demoted_sim w m a.map k.table n h b hs.key hs.replica hs.fits hs.role) (rw p)

    promoted : eqb a.map.primary n ≡ true → promotes h i ≡ true → After (taken ((promoted_to n i w.metric h).held ∷ []))
    unfolding proto.step proto.on_show proto.show_as h
    promoted p q =
        let not_leading : leads_at h.role a.map.epoch ≡ false =
        subst (λ (e : ℕ). leads_at h.role e ≡ false) k.table.epoch
        (not-true (leads_at h.role i.epoch) (and_left (not (leads_at h.role i.epoch)) (leb h.replica.epoch i.epoch) q)) in
        let low : leb b.replica.epoch a.map.epoch ≡ true =
        ap (λ (r : ShardReplica). leb r.epoch a.map.epoch) (sym hs.replica)
        ∙ ap (leb h.replica.epoch) (sym k.table.epoch)
        ∙ and_right (not (leads_at h.role i.epoch)) (leb h.replica.epoch i.epoch) q in
        becomes (promoted_to n i w.metric h).held (leader b a.map)
        (promoted_sim w m a.map k.table n h b hs.key hs.replica hs.fits hs.role w.metric q)
        (rw (p, no_lead w top n h.role h.replica h.peers b.role hs.role a.map.epoch not_leading, low))

    remains : After (taken ((kept_as n i w.metric h h.role).held ∷ []))
    unfolding h
    remains f =
        quiet (taken ((kept_as n i w.metric h h.role).held ∷ []))
        (node_of_lem b (kept_as n i w.metric h h.role).held f
        (kept_sim w m a.map k.table n h b hs.key hs.replica hs.fits hs.role w.metric))

    shown-held : After (taken ((show_held n i w.metric h).held ∷ []))
    unfolding show_held
    shown-held =
        let P : Showing → Type 0 = λ z. After (taken (z.held ∷ [])) in
        by-test P (is_primary i.primary n)
        (λ p. by-test P (promotes h i) (λ q. promoted (primary true p) q) (λ q. remains))
        (λ p. steps_down (primary false p))
      where
        primary : (v : Bool) → is_primary i.primary n ≡ v → eqb a.map.primary n ≡ v
        primary v p = sym (ap (λ (o : Option ℕ). is_primary o n) k.table.primary) ∙ p

    alive : any (dead_as x) m.nodes ≡ false
    alive =
        ap (any (dead_as x)) k.table.nodes
        ∙ ap (λ (z : ℕ). any (dead_row z x.incarnation) w.nodes) own
        ∙ w.alive n x.incarnation ((k.nodes n).listed y)

    one : showings x m m.shards ≡ show_held n i w.metric h ∷ []
    unfolding show_listed h
    one =
        shows_one w m a.map k.table x n own ((k.nodes n).listed y)
        ∙ ap (λ (o : Option Held). or_not (show_listed n i (some w.metric) o) []) (shard-found w top n x b (k.nodes n) h ((k.nodes n).here y).1 hs)

    inside : (fresh : ℕ) → After (on_map x fresh m).after
    unfolding on_map take_map
    inside fresh =
        let P : Result ShownAnswer held.Node → Type 0 = λ v. After v.after in
        by-test P (ltb m.version x.version) (λ p f. quiet x (k.nodes n))
        (λ p. by-test P (any (dead_as x) m.nodes) (λ q. not_both (any (dead_as x) m.nodes) q alive)
        (λ q. by-test P (too_many (showings x m m.shards)) (λ u f. quiet x (k.nodes n))
        (λ u. subst (λ (l : List Showing). After (taken (map held_of l))) (sym one) shown-held)))

  pub on-shown : (fresh : ℕ) → Reaches w (step.on_shown s n fresh) a
  unfolding step.on_shown call_shown shown_with
  on-shown fresh =
      by-test (λ (v : Result ShownAnswer held.Node). After v.after) (not (well_formed_header x and well_formed_map m)) (λ p f. quiet x (k.nodes n))
      (λ p. go (holds n w.holders) refl)
      (node-formed _ (call_shown_kept x (formed-node x (k.nodes n).formed) fresh m))
    where
      go : (v : Bool) → holds n w.holders ≡ v → After (on_map x fresh m).after
      go true v = inside v fresh
      go false v = outside v fresh
