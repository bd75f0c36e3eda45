-- Paper 01, 'Rules of a run', Fresh: a fresh state of a run is the protocol's first state, with the first holder as its primary. Assumes
-- nothing.
use Prim.Native.Nat.{ℕ, zero, suc, ◌+◌, ◌≤◌}
use mathlib.Core.Path.{◌≡◌, refl, sym, ap, ◌∙◌, subst}
use mathlib.Core.Bool.{Bool, true, false, cond, not}
use mathlib.Core.List.{List, [], ◌∷◌, map}
use mathlib.Core.Option.{Option, some}
use native.Mathlib.Omega.{arith}
use lib.Dec.{eqb}
use lib.ListN.{length}
use borrow.Author.Tests.{eqb-true, eqb-false, eq-eqb, ltb-true, le-ltb, le-leb}
use Rattle.spec.specs.Limits.{max_held, max_workers, max_replicas}
use Rattle.spec.specs.Lists.{◌and◌, ◌or◌, nth, any, every, find, rising, put, collect}
use Rattle.spec.specs.Log.{empty_replica, promote, epoch_ends}
use Rattle.spec.specs.Map.Tables as tables
use Rattle.spec.specs.Map.Tables.{NodeInfo, ShardInfo}
use Rattle.spec.specs.Map.Apply.{node_below}
use Rattle.spec.specs.Map.Change.{holds, in_sync, is_on}
use Rattle.spec.specs.Map.Create.{is_node, node_at}
use Rattle.spec.specs.Map.WellFormed.{shard_fits}
use Rattle.spec.specs.Layout.Writable.{U64}
use Rattle.spec.specs.Node.Held as held
use Rattle.spec.specs.Node.Held.{Held, empty_node}
use Rattle.spec.specs.Node.Shards.{Result, held_shard, of_node, held_below, row_below, begun, demoted}
use Rattle.spec.specs.Node.Shown as shown
use Rattle.spec.specs.Node.Shown.{ShownAnswer, Showing, listed_as, new_row, with_row, with_rows, promotes, promoted_to, show_held, show_listed, showings, held_of, too_many, take_map, is_primary, refreshed}
use Rattle.spec.specs.Node.WellFormed.{well_formed_held, log_of}
use Rattle.spec.specs.declared.DataNodeId.{DataNodeId}
use Rattle.spec.specs.declared.Replica.{Replica}
use Rattle.spec.specs.declared.Peer.{Peer}
use Rattle.spec_laws.proofs.Lists.{by-test, not_both, none_some, some_same, and_left, and_true, nth-nil}
use Rattle.spec_laws.proofs.Nearest.Tests.{eqb_comm}
use Rattle.spec_laws.proofs.Rising.{rising_tail}
use Rattle.spec_laws.proofs.Map.Orders.{nodes_by_id}
use Rattle.spec_laws.proofs.Map.Rows.{every_tail, find_true, rising-find, put-most}
use Rattle.spec_laws.proofs.Map.WellFormed.{map-parts, shard-parts}
use Rattle.spec_laws.proofs.Node.Formed.{FormedNode}
use Rattle.spec_laws.proofs.Node.KeptMap.{take_map_kept}
use Rattle.spec_run.specs.State as real
use Rattle.spec_run.specs.Fresh.{Live, AllLive, Created, Shown, Fresh}
use Rattle.thm_run.proofs.Protocol.Base.{All, upd_same, upd_other}
use Rattle.thm_run.proofs.Protocol.Sets.{member}
use Rattle.thm_run.proofs.Protocol.State.{Map, backup, Node, State, fresh, leader, with_role}
use Rattle.thm_run.proofs.Simulation.Lists.{any-find}
use Rattle.thm_run.proofs.Simulation.Relation.{World, dead_row, MapSim, LogFits, HeldSim, NodeSim, RequestAt, ReplySim, OfferFits, OutcomeKey, WriteKey, proposal_of, shrinks, outcome_of, accepted_of, acknowledged_of, Sim}
use Rattle.thm_run.proofs.Simulation.ShownShard.{demoted_sim, promoted_sim}
use Rattle.thm_run.proofs.Simulation.Shown.{shows_none, shows_one}

-- ---- the map's nodes

-- a node found alive is dead nowhere else: its row is the only one
alive-once : (n incarnation : ℕ) (l : List NodeInfo) → rising node_below l ≡ true → (i : NodeInfo) → find (is_node n) l ≡ some i → i.alive ≡ true
    → any (dead_row n incarnation) l ≡ false
unfolding find any ◌and◌
alive-once n incarnation [] r i e live = refl
alive-once n incarnation (y ∷ ys) r i e live =
    go (eqb y.node n) refl e (alive-once n incarnation ys (rising_tail node_below nodes_by_id y ys r) i)
  where
    others : eqb y.node n ≡ true → (t : Bool) → any (dead_row n incarnation) ys ≡ t → t ≡ false
    others q true t =
        let f = any-find (dead_row n incarnation) ys t in
        let d = find_true (dead_row n incarnation) ys f.0 f.1 in
        let same = eqb-true f.0.node n (and_left (eqb f.0.node n) _ d) in
        let up = ltb-true y.node f.0.node (rising-find node_below nodes_by_id (dead_row n incarnation) y ys f.0 r f.1) in
        let mine = eqb-true y.node n q in
        absurd (omega arith)
    others q false t = refl

    go : (b : Bool) → eqb y.node n ≡ b → cond b (some y) (find (is_node n) ys) ≡ some i
        → (find (is_node n) ys ≡ some i → i.alive ≡ true → any (dead_row n incarnation) ys ≡ false)
        → cond (b and eqb y.incarnation incarnation and not y.alive) true (any (dead_row n incarnation) ys) ≡ false
    go true q e more =
        let u : y.alive ≡ true = ap (λ (z : NodeInfo). z.alive) (some_same e) ∙ live in
        rest (eqb y.incarnation incarnation) y.alive u (others q (any (dead_row n incarnation) ys) refl)
      where
        rest : (c d : Bool) → d ≡ true → any (dead_row n incarnation) ys ≡ false
            → cond (c and not d) true (any (dead_row n incarnation) ys) ≡ false
        rest true true u v = v
        rest false true u v = v
        rest c false u v = not_both false u refl
    go false q e more = more e live

live_at : (m : tables.Map) (p : Replica → Bool) (rs : List Replica) (r : Replica) → AllLive m rs → find p rs ≡ some r → Live m r × U64 r.node.0
unfolding find
live_at m p [] r h e = none_some e
live_at m p (q ∷ qs) r h e =
    let more = live_at m p qs r h.2 in
    by-test (λ (v : Option Replica). v ≡ some r → Live m r × U64 r.node.0) (p q)
    (λ t d. subst (λ (z : Replica). Live m z × U64 z.node.0) (some_same d) (h.0, h.1)) (λ t d. more d) e

-- one that is found has a place, and one at a place that passes is found
find-place : {A : Type 0} (p : A → Bool) (l : List A) (x : A) → find p l ≡ some x → (j : ℕ) × (nth l j ≡ some x)
unfolding find nth
find-place p [] x e = none_some e
find-place {A} p (y ∷ ys) x e =
    let more = find-place p ys x in
    by-test (λ (v : Option A). v ≡ some x → (j : ℕ) × (nth (y ∷ ys) j ≡ some x)) (p y) (λ t d. (0, d)) (λ t d. let r = more d in (suc r.0, r.1)) e

pub place-any : {A : Type 0} (p : A → Bool) (l : List A) (j : ℕ) (x : A) → nth l j ≡ some x → p x ≡ true → any p l ≡ true
unfolding nth any
place-any p [] j x e t = nth-nil j x e
place-any {A} p (y ∷ ys) zero x e t = rw (subst (λ (z : A). p z ≡ true) (sym (some_same e)) t)
place-any p (y ∷ ys) (suc j) x e t =
    let more = place-any p ys j x e t in
    by-test (λ (v : Bool). v ≡ true) (p y) (λ u. refl) (λ u. more)

-- ---- what never changes

module _ (m : tables.Map) (i : ShardInfo) (c : Created m i) where
  pub id-fits : (n : ℕ) → holds n i.replicas ≡ true → U64 n
  unfolding holds
  id-fits n h =
      let f = any-find (is_on n) i.replicas h in
      subst U64 (eqb-true f.0.node.0 n (find_true (is_on n) i.replicas f.0 f.1))
      (live_at m (is_on n) i.replicas f.0 c.live f.1).1

  pub holder_alive : (n incarnation : ℕ) → any (listed_as n incarnation) i.replicas ≡ true → any (dead_row n incarnation) m.nodes ≡ false
  unfolding node_at
  holder_alive n incarnation h =
      let f = any-find (listed_as n incarnation) i.replicas h in
      let t = find_true (listed_as n incarnation) i.replicas f.0 f.1 in
      let same = eqb-true f.0.node.0 n (and_left (eqb f.0.node.0 n) (eqb f.0.incarnation incarnation) t) in
      let v = (live_at m (listed_as n incarnation) i.replicas f.0 c.live f.1).0 in
      alive-once n incarnation m.nodes (map-parts m c.well_formed).0.1 v.0
      (subst (λ (z : ℕ). find (is_node z) m.nodes ≡ some v.0) same v.1) v.2

  abbrev pub world : World
  world = record {
    key = i.key;
    holders = i.replicas;
    nodes = m.nodes;
    collections = m.collections;
    metric = c.metric.0;
    good_key = c.key;
    measured = c.metric.1;
    ids = id-fits;
    alive = holder_alive;
  }

  -- ---- the protocol's first state

  -- the first holder, and the others
  abbrev pub first : ℕ
  first = c.first.0.node.0

  abbrev pub others : List Replica → List ℕ
  others [] = []
  others (r ∷ rs) = map (λ (q : Replica). q.node.0) rs

  abbrev pub start : State
  start = fresh c.metric.0 first (others i.replicas)

  in_sync_lem : (n : ℕ) → in_sync n i.insync ≡ member n (first ∷ others i.replicas)
  in_sync_lem n = c.everyone n ∙ sym (go i.replicas c.first.1)
    where
      each : (rs : List Replica) → member n (map (λ (q : Replica). q.node.0) rs) ≡ holds n rs
      each [] = unfold member in unfold holds in unfold any in refl
      each (r ∷ rs) = joined r rs (each rs)
        where
          joined : (r : Replica) (rs : List Replica) → member n (map (λ (q : Replica). q.node.0) rs) ≡ holds n rs
              → member n (map (λ (q : Replica). q.node.0) (r ∷ rs)) ≡ holds n (r ∷ rs)
          joined r rs more = unfold member in unfold holds in unfold any in rw (eqb_comm n r.node.0, more)

      go : (rs : List Replica) → nth rs 0 ≡ some c.first.0 → member n (first ∷ others rs) ≡ holds n rs
      go [] e = unfold nth in none_some e
      go (r ∷ rs) e =
          let u : c.first.0 ≡ r = (unfold nth in some_same (sym e)) in
          ap (λ (z : Replica). member n (z.node.0 ∷ map (λ (q : Replica). q.node.0) rs)) u ∙ each (r ∷ rs)

  table : MapSim world m start.map
  unfolding fresh
  table = record {
    formed = c.well_formed;
    nodes = refl;
    collections = refl;
    shard = i;
    only = c.only;
    key = refl;
    replicas = refl;
    primary = c.first.2;
    epoch = c.epoch;
    upto = omega arith;
    insync = in_sync_lem;
  }

  -- ---- a node that was shown the map

  few : (me : ℕ) (sync : List DataNodeId) (rs : List Replica) (rows : List Peer) → length (with_rows me sync rs rows) ≤ length rs + length rows
  unfolding with_rows
  few me sync [] rows = omega arith
  few me sync (r ∷ rs) rows =
      let more = few me sync rs (with_row me sync r.node rows) in
      let one : length (with_row me sync r.node rows) ≤ suc (length rows) = step' in
      omega arith
    where
      step' : length (with_row me sync r.node rows) ≤ suc (length rows)
      step' =
          unfold with_row in
          by-test (λ (v : List Peer). length v ≤ suc (length rows)) (eqb r.node.0 me or any (of_node r.node.0) rows)
          {x = rows} {y = put row_below (new_row r.node (any (shown.is_node r.node.0) sync)) rows}
          (λ t. omega arith) (λ t. put-most row_below (new_row r.node (any (shown.is_node r.node.0) sync)) rows)

  short : length i.replicas ≤ max_replicas
  short =
      let all = subst (λ (l : List ShardInfo). every shard_fits l ≡ true) c.only (map-parts m c.well_formed).2.2 in
      (shard-parts i (every_tail shard_fits i [] all).0).1

  abbrev h : Held
  h = begun i.key c.metric.0

  abbrev b : Node
  b = record { replica = empty_replica 0 c.metric.0; role = backup }

  empty-fits : LogFits world (empty_replica 0 c.metric.0)
  empty-fits = record { epoch = omega arith; entries = λ j e q. nth-nil j e q }

  may : promotes h i ≡ true
  unfolding ◌and◌
  may = le-leb 0 i.epoch (omega arith)

  is-first : (n : ℕ) (v : Bool) → is_primary i.primary n ≡ v → eqb first n ≡ v
  is-first n v t = sym (ap (λ (o : Option ℕ). is_primary o n) c.first.2) ∙ t

  -- what it makes of the shard that begins
  leads : (n : ℕ) → is_primary i.primary n ≡ true → HeldSim world 1 n (promoted_to n i c.metric.0 h).held (start.nodes n)
  unfolding fresh leader promote epoch_ends table
  leads n t =
      subst (HeldSim world 1 n (promoted_to n i c.metric.0 h).held)
      (sym (upd_same _ first (leader b start.map)) ∙ ap start.nodes (eqb-true first n (is-first n true t)))
      (promoted_sim world m start.map table n h b refl refl empty-fits refl c.metric.0 may)

  follows : (n : ℕ) → is_primary i.primary n ≡ false → HeldSim world 1 n (demoted (refreshed i h)) (start.nodes n)
  unfolding fresh with_role table
  follows n t =
      subst (HeldSim world 1 n (demoted (refreshed i h)))
      (sym (upd_other (λ k. b) first _ n (λ e. eqb-false first n (is-first n false t) (sym e))))
      (demoted_sim world m start.map table n h b refl refl empty-fits refl)

  begins : (n : ℕ)
      → HeldSim world 1 n (show_held n i c.metric.0 h).held (start.nodes n) × (length (show_held n i c.metric.0 h).held.peers ≤ max_workers)
  unfolding show_held promoted_to
  begins n =
      let P : Showing → Type 0 = λ z. HeldSim world 1 n z.held (start.nodes n) × (length z.held.peers ≤ max_workers) in
      by-test P (is_primary i.primary n)
      (λ t. by-test P (promotes h i)
      (λ u. (leads n t, (let p = few n i.insync i.replicas [] in let q = short in omega arith)))
      (λ u. not_both (promotes h i) may u))
      (λ t. (follows n t, omega arith))

  module _ (n : ℕ) (x : held.Node) (shown' : Shown m i n x) where
    abbrev new : held.Node
    new = empty_node n x.incarnation

    listed : holds n i.replicas ≡ true → any (listed_as n x.incarnation) i.replicas ≡ true
    unfolding holds
    listed y =
        let f = any-find (is_on n) i.replicas y in
        let p = find-place (is_on n) i.replicas f.0 f.1 in
        let same = eqb-true f.0.node.0 n (find_true (is_on n) i.replicas f.0 f.1) in
        place-any (listed_as n x.incarnation) i.replicas p.0 f.0 p.1
        (and_true (eqb f.0.node.0 n) (eqb f.0.incarnation x.incarnation) (eq-eqb f.0.node.0 n same)
        (eq-eqb f.0.incarnation x.incarnation (sym (shown'.listed f.0 p.0 p.1 same))))

    none-held : holds n i.replicas ≡ false → x.held ≡ []
    unfolding take_map
    none-held y =
        shown'.held
        ∙ by-test (λ (v : Result ShownAnswer held.Node). v.after.held ≡ []) (too_many (showings new m m.shards)) (λ t. refl)
        (λ t. ap (map held_of) (shows_none world m start.map table new n y))

    one : holds n i.replicas ≡ true → showings new m m.shards ≡ show_held n i c.metric.0 h ∷ []
    unfolding show_listed held_shard find table
    one y = shows_one world m start.map table new n refl (listed y)

    room : too_many (show_held n i c.metric.0 h ∷ []) ≡ false
    unfolding any ◌or◌
    room = rw (le-ltb max_workers (length (show_held n i c.metric.0 h).held.peers) (begins n).1)

    one-held : holds n i.replicas ≡ true → x.held ≡ (show_held n i c.metric.0 h).held ∷ []
    unfolding take_map
    one-held y =
        shown'.held
        ∙ by-test (λ (v : Result ShownAnswer held.Node). v.after.held ≡ (show_held n i c.metric.0 h).held ∷ [])
        (too_many (showings new m m.shards))
        (λ t. not_both (too_many (showings new m m.shards)) t (ap too_many (one y) ∙ room)) (λ t. ap (map held_of) (one y))

    formed : FormedNode x
    unfolding rising every
    formed =
        let f = take_map_kept new m c.well_formed (record { most = omega arith; rise = refl; shards = refl; logs = refl }) in
        let e = sym shown'.held in
        record {
          most = subst (λ (l : List Held). length l ≤ max_held) e f.most;
          rise = subst (λ (l : List Held). rising held_below l ≡ true) e f.rise;
          shards = subst (λ (l : List Held). every well_formed_held l ≡ true) e f.shards;
          logs = subst (λ (l : List Held). every log_of l ≡ true) e f.logs;
        }

    node : NodeSim world start.map.epoch n x (start.nodes n)
    unfolding fresh
    node = record {
      id = shown'.id;
      formed = formed;
      here = λ y. ((show_held n i c.metric.0 h).held, one-held y, (begins n).0);
      gone = none-held;
      listed = listed;
    }

-- a fresh state is the protocol's first
pub at-start : (s : real.State) (f : Fresh s) → Sim (world s.map f.shard f.created) s (start s.map f.shard f.created)
unfolding fresh collect
at-start s f =
    let m = s.map in
    let i = f.shard in
    let c = f.created in
    let w = world m i c in
    record {
      table = table m i c;
      nodes = λ n. node m i c n (s.nodes n) (f.shown n);
      clients = f.clients;
      requests = λ a b. subst (All (RequestAt w b [])) (sym (f.requests a b)) tt;
      replies = subst (All (ReplySim w [])) (sym f.replies) tt;
      offers = ap (map (proposal_of w)) f.offers;
      offered = subst (All (OfferFits w 1)) (sym f.offers) tt;
      outcomes = ap (collect (shrinks w) (outcome_of w)) f.outcomes;
      told = subst (All (OutcomeKey w)) (sym f.outcomes) tt;
      accepted = ap (map (accepted_of w)) f.accepted;
      written = subst (All (WriteKey w)) (sym f.accepted) tt;
      acknowledged = ap (map (acknowledged_of w)) f.acknowledged;
      known = subst (All (WriteKey w)) (sym f.acknowledged) tt;
    }
