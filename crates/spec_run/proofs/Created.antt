-- 'Fresh' is what Register, Create and the first maps shown give: a Create of one list of distinct nodes, applied to a well-formed map
-- that has no shard (as Register leaves it), makes a Created map; and the nodes that are shown it stand as a fresh state has them.
-- Assumes nothing.
use Prim.Native.Nat.{ℕ, zero, suc, ◌≤◌, ◌<◌}
use mathlib.Core.Path.{◌≡◌, refl, sym, ap, ◌∙◌, subst}
use mathlib.Core.Bool.{Bool, true, false, cond, not}
use mathlib.Core.List.{List, [], ◌∷◌, ◌++◌, map, flatten, append-nil}
use mathlib.Core.Option.{Option, none, some}
use native.Mathlib.Omega.{arith}
use lib.Dec.{eqb, ltb, leb}
use lib.ListN.{length}
use borrow.Author.Tests.{eqb-true, eqb-false, eq-eqb, ne_eqb, ltb-true, le-leb, le-ltb}
use Rattle.spec.specs.Lists.{◌and◌, ◌or◌, nth, every, any, find, put, rising}
use Rattle.spec.specs.Keys.{Name, Key, same_name, name_below}
use Rattle.spec.specs.Limits.{max_name, max_listed}
use Rattle.spec.specs.Map.Tables.{Map, ShardInfo, NodeInfo, Spec, Collection, Answer, outcome, refused, applied, rejected}
use Rattle.spec.specs.Map.Change.{accepts, holds, is_on, in_sync, is_id, node_id, id_below}
use Rattle.spec.specs.Map.Create.{node_at, is_node, is_alive, first_not_alive, replica_of, incarnation_of, add_all, new_shard, matches, list_matches, create_answer, create_on, create_room, zero_in, has_collection, created_shards, with_shards, created_collections, collection_below, shard_below}
use Rattle.spec.specs.Map.Apply.{node_below, Applied, apply, settle, decide, commit, remembered, sets_version}
use Rattle.spec.specs.Map.WellFormed.{well_formed_map, command_fits}
use Rattle.spec.specs.Layout.Format.{All}
use Rattle.spec.specs.Layout.Request.{Request, Command, create}
use Rattle.spec.specs.Layout.Writable.{GoodKey, GoodName, GoodCommand, GoodList, GoodPlacement, U64}
use Rattle.spec.specs.Node.Held.{Node, empty_node}
use Rattle.spec.specs.Node.Shown.{ShownAnswer, on_map, dead_as, take_map, showings, show_shard, or_not, too_many, overworked, held_of, all_starts, collection_metric, metric_of, named, listed_as}
use Rattle.spec.specs.Node.Shards.{Result}
use Rattle.spec.specs.Node.WellFormed.{well_formed_header}
use Rattle.spec.specs.Node.Calls.{call_shown, shown_with}
use Rattle.spec.specs.declared.DataNodeId.{DataNodeId}
use Rattle.spec.specs.declared.Replica.{Replica}
use Rattle.spec.specs.declared.Metric.{Metric}
use Rattle.spec_laws.proofs.Lists.{by-test, not_both, and_true, and_left, and_right, none_some, some_same}
use Rattle.spec_laws.proofs.Rising.{rising_tail}
use Rattle.spec_laws.proofs.Map.Rows.{find-put, find_true}
use Rattle.spec_laws.proofs.Map.Orders.{nodes_by_id, name-same, same-name, name_not_below}
use Rattle.spec_laws.proofs.Map.Sets.{in_put, rest_of_put}
use Rattle.spec_laws.proofs.Map.WellFormed.{stays_well_formed, map-parts}
use Rattle.spec_run.specs.Fresh.{Distinct, Live, AllLive, Created, Shown, Fresh}
use Rattle.spec_run.specs.State.{State}
use Rattle.spec_run.proofs.Ids as ids
use Rattle.spec_run.proofs.Ids.{own-number}

-- an id is in a list; no id is in it twice
unfoldable pub has : ℕ → List ℕ → Bool
has n l = any (λ x. eqb x n) l

abbrev pub DistinctIds : List ℕ → Type 0
DistinctIds [] = Unit {0}
DistinctIds (n ∷ ns) = (has n ns ≡ false) × DistinctIds ns

-- ---- the replicas of a list of nodes

module _ (ns : List NodeInfo) where
  holds-replicas : (n : ℕ) (l : List ℕ) → holds n (map (replica_of ns) l) ≡ has n l
  unfolding holds has any
  holds-replicas n [] = refl
  holds-replicas n (x ∷ l) = ap (cond (eqb x n) true) (holds-replicas n l)

  distinct : (l : List ℕ) → DistinctIds l → Distinct (map (replica_of ns) l)
  distinct [] d = tt
  distinct (n ∷ l) d = (holds-replicas n l ∙ d.0, distinct l d.1)

  -- no node of the list is dead or unknown
  abbrev AllAlive : List ℕ → Type 0
  AllAlive [] = Unit {0}
  AllAlive (n ∷ l) = (is_alive (node_at ns n) ≡ true) × AllAlive l

  all-alive : (l : List ℕ) → find (λ n. not (is_alive (node_at ns n))) l ≡ none → AllAlive l
  unfolding find
  all-alive [] = λ e. tt
  all-alive (n ∷ l) = go (is_alive (node_at ns n)) refl (all-alive l)
    where
      go : (b : Bool) → is_alive (node_at ns n) ≡ b → (find (λ x. not (is_alive (node_at ns x))) l ≡ none → AllAlive l)
          → cond (not b) (some n) (find (λ x. not (is_alive (node_at ns x))) l) ≡ none → (is_alive (node_at ns n) ≡ true) × AllAlive l
      go true q more e = (q, more e)
      go false q more e = none_some (sym e)

  live_at : (m : Map) → m.nodes ≡ ns → (n : ℕ) (o : Option NodeInfo) → node_at ns n ≡ o → is_alive o ≡ true → Live m (replica_of ns n)
  live_at m e n none q a = not_both false a refl
  live_at m e n (some i) q a = (i, rw e q, a, rw q)

  all_live : (m : Map) → m.nodes ≡ ns → (l : List ℕ) → All U64 l → AllAlive l → AllLive m (map (replica_of ns) l)
  all_live m e [] u a = tt
  all_live m e (n ∷ l) u a = (live_at m e n (node_at ns n) refl a.0, u.0, all_live m e l u.1 a.1)

-- the in_sync_lem set of a new shard is just its nodes
or_false : (b : Bool) → (b or false) ≡ b
unfolding ◌or◌
or_false true = refl
or_false false = refl

or_true : (b : Bool) → (b or true) ≡ true
unfolding ◌or◌
or_true true = refl
or_true false = refl

in_all : (n : ℕ) (ds : List DataNodeId) (l : List ℕ) → in_sync n (add_all ds l) ≡ (in_sync n ds or has n l)
unfolding add_all has any ◌or◌
in_all n ds [] = sym (or_false (in_sync n ds))
in_all n ds (x ∷ l) = go (eqb x n) refl (in_all n (put id_below (node_id x) ds) l)
  where
    go : (b : Bool) → eqb x n ≡ b → in_sync n (add_all (put id_below (node_id x) ds) l) ≡ (in_sync n (put id_below (node_id x) ds) or has n l)
        → in_sync n (add_all (put id_below (node_id x) ds) l) ≡ (in_sync n ds or cond b true (has n l))
    go true e h =
        let q : x ≡ n = eqb-true x n e in
        h ∙ ap (λ (b : Bool). b or has n l) (subst (λ (k : ℕ). in_sync k (put id_below (node_id x) ds) ≡ true) q (in_put x ds)) ∙ sym (or_true (in_sync n ds))
    go false e h = h ∙ ap (λ (b : Bool). b or has n l) (rest_of_put x ds n (λ q. eqb-false x n e (sym q)))

-- ---- a Create that is taken

module _ (m : Map) (name : Name) (spec : Spec) (l : List ℕ) where
  record Taken : Type 0 where
    matched : matches spec (l ∷ []) ≡ true
    alive : first_not_alive m.nodes (l ∷ []) ≡ none

  taken : decide m (create name spec (l ∷ [])) ≡ accepts → Taken
  unfolding decide create_answer create_on
  taken =
      by-test (λ v. v ≡ accepts → Taken) (has_collection name m.collections) (λ q e. wrong e)
      (λ q. by-test (λ v. v ≡ accepts → Taken) (zero_in spec) (λ z e. wrong e)
      (λ z. by-test (λ v. v ≡ accepts → Taken) (matches spec (l ∷ []))
      (λ w e. record { matched = w; alive = alive (first_not_alive m.nodes (l ∷ [])) refl e })
      (λ w e. wrong e)))
    where
      wrong : {P : Type 0} {r : _} → outcome (rejected r) ≡ accepts → P
      wrong e = let z : ◌≡◌ {A = ℕ} 0 1 = cc in absurd (omega arith)

      alive : (o : Option ℕ) → first_not_alive m.nodes (l ∷ []) ≡ o → create_on m name (l ∷ []) o ≡ accepts
          → first_not_alive m.nodes (l ∷ []) ≡ none
      alive none q e = q
      alive (some n) q e = wrong e

-- a list that matches a spec has a first node, and its replica is the first
first_of : (ns : List NodeInfo) (k : ℕ) (l : List ℕ) → list_matches k l ≡ true
    → (r : Replica) × (nth (map (replica_of ns) l) 0 ≡ some r) × (nth l 0 ≡ some r.node.0)
unfolding ◌and◌ nth
first_of ns k [] e = not_both false e refl
first_of ns k (n ∷ rest) e = (replica_of ns n, refl, refl)

every_one : {A : Type 0} (p : A → Bool) (x : A) → every p (x ∷ []) ≡ true → p x ≡ true
unfolding every
every_one p x = by-test (λ v. v ≡ true → p x ≡ true) (p x) (λ q e. q) (λ q e. not_both false e refl)

module _ (m : Map) (index client seq : ℕ) (name : Name) (spec : Spec) (l : List ℕ) where
  -- the request, and the map after it
  abbrev pub asked : Request
  asked = record { index = index; client = client; seq = seq; command = create name spec (l ∷ []) }

  abbrev pub after : Map
  after = (apply m asked).map

  -- the one shard
  abbrev pub info : ShardInfo
  info = new_shard m.nodes name 0 l

  module _ (formed : well_formed_map m ≡ true) (none_yet : m.shards ≡ []) (good : GoodName name) (ids : GoodList l) (apart : DistinctIds l)
      (executed : apply m asked ≡ settle m asked (decide m asked.command)) (accepted : decide m asked.command ≡ accepts) where
    after_is : after ≡ (settle m asked accepts).map
    after_is = ap (λ (a : Applied). a.map) executed ∙ ap (λ (a : Answer). (settle m asked a).map) accepted

    took : Taken m name spec l
    took = taken m name spec l accepted

    nodes-kept : after.nodes ≡ m.nodes
    unfolding settle remembered commit
    nodes-kept = ap (λ (x : Map). x.nodes) after_is

    only : after.shards ≡ info ∷ []
    unfolding settle remembered commit created_shards with_shards put
    only = ap (λ (x : Map). x.shards) after_is ∙ ap (put shard_below info) none_yet

    metric : collection_metric after name ≡ some spec.metric
    unfolding settle remembered commit created_collections
    metric =
        ap (λ (x : Map). collection_metric x name) after_is
        ∙ ap metric_of
        (find-put (named name) collection_below (record { name = name; spec = spec }) (name-same name) (λ c q. other c q) m.collections)
      where
        other : (c : Collection) → name_below c.name name ≡ true → same_name c.name name ≡ false
        other c q = go (same_name c.name name) refl
          where
            go : (b : Bool) → same_name c.name name ≡ b → b ≡ false
            go true e = not_both (name_below name name) (subst (λ (x : Name). name_below x name ≡ true) (same-name c.name name e) q) (name_not_below name)
            go false e = refl

    fits : command_fits asked.command ≡ true
    unfolding command_fits every
    fits = and_true _ _ (le-leb (length name) max_name good.0) (rw (le-leb (length l) max_listed ids.0))

    first : (r : Replica) × (nth info.replicas 0 ≡ some r) × (info.primary ≡ some r.node.0)
    unfolding new_shard matches
    first =
        first_of m.nodes spec.replication l
        (every_one (list_matches spec.replication) l (and_right (eqb 1 spec.shards) _ took.matched))

    everyone : (n : ℕ) → in_sync n info.insync ≡ holds n info.replicas
    unfolding new_shard in_sync any ◌or◌ has holds
    everyone n = in_all n [] l ∙ sym (holds-replicas m.nodes n l)

    alive : AllAlive m.nodes l
    unfolding first_not_alive flatten
    alive = all-alive m.nodes l (ap (find (λ n. not (is_alive (node_at m.nodes n)))) (sym (append-nil l)) ∙ took.alive)

    pub created : Created after info
    unfolding new_shard
    created = record {
      well_formed = stays_well_formed m asked formed fits;
      only = only;
      key = (good, omega arith);
      metric = (spec.metric, metric);
      distinct = distinct m.nodes l apart;
      live = all_live m.nodes after nodes-kept l ids.1 alive;
      first = first;
      everyone = everyone;
      epoch = refl;
    }

-- ---- the first maps shown

-- a table of nodes that rises from above an id
abbrev Over : ℕ → List NodeInfo → Type 0
Over k [] = Unit {0}
Over k (y ∷ ys) = (k < y.node) × Over y.node ys

over : (x : NodeInfo) (ys : List NodeInfo) → rising node_below (x ∷ ys) ≡ true → Over x.node ys
unfolding rising
over x [] e = tt
over x (y ∷ ys) e =
    (ltb-true x.node y.node (and_left (node_below x y) _ e), over y ys (and_right (node_below x y) _ e))

and_false : (b : Bool) → (b and false) ≡ false
unfolding ◌and◌
and_false true = refl
and_false false = refl

module _ (n : Node) where
  other-node : (x : NodeInfo) → (x.node ≡ n.id → ⊥) → dead_as n x ≡ false
  unfolding ◌and◌
  other-node x ne = rw (ne_eqb x.node n.id ne)

  not_above_lem : (k : ℕ) (ys : List NodeInfo) → n.id ≤ k → Over k ys → any (dead_as n) ys ≡ false
  unfolding any
  not_above_lem k [] le o = refl
  not_above_lem k (y ∷ ys) le o =
      rw (other-node y (λ q. omega (arith, o.0))) (not_above_lem y.node ys (omega (arith, o.0)) o.1)

  -- a node that the map lists alive is not listed dead
  pub not_dead : (ns : List NodeInfo) (i : NodeInfo) → rising node_below ns ≡ true → node_at ns n.id ≡ some i → i.alive ≡ true
      → any (dead_as n) ns ≡ false
  unfolding node_at find any ◌and◌
  not_dead [] i rise found alive = refl
  not_dead (x ∷ xs) i rise found alive =
      go (eqb x.node n.id) refl found (not_dead xs i (rising_tail node_below nodes_by_id x xs rise))
    where
      lives : x.alive ≡ true → dead_as n x ≡ false
      lives q = rw q (ap (λ (b : Bool). eqb x.node n.id and b) (and_false (eqb x.incarnation n.incarnation)) ∙ and_false (eqb x.node n.id))

      go : (b : Bool) → eqb x.node n.id ≡ b → cond b (some x) (find (is_node n.id) xs) ≡ some i
          → (find (is_node n.id) xs ≡ some i → i.alive ≡ true → any (dead_as n) xs ≡ false) → any (dead_as n) (x ∷ xs) ≡ false
      go true e f more =
          let q : x ≡ i = cc in
          rw (lives (ap (λ (y : NodeInfo). y.alive) q ∙ alive))
          (not_above_lem x.node xs (omega (arith, eqb-true x.node n.id e)) (over x xs rise))
      go false e f more = rw (other-node x (eqb-false x.node n.id e)) (more f alive)

module _ (m : Map) (i : ShardInfo) (c : Created m i) where
  rise : rising node_below m.nodes ≡ true
  rise = (map-parts m c.well_formed).0.1

  -- a holder is listed once, and is alive
  live_holder : (rs : List Replica) → AllLive m rs → (n : ℕ) → holds n rs ≡ true
      → (x : NodeInfo) × (node_at m.nodes n ≡ some x) × (x.alive ≡ true)
  unfolding holds any
  live_holder [] a n h = not_both false h refl
  live_holder (r ∷ rs) a n h = go (eqb r.node.0 n) refl h (live_holder rs a.2 n)
    where
      go : (b : Bool) → eqb r.node.0 n ≡ b → cond b true (any (is_on n) rs) ≡ true
          → (any (is_on n) rs ≡ true → (x : NodeInfo) × (node_at m.nodes n ≡ some x) × (x.alive ≡ true))
          → (x : NodeInfo) × (node_at m.nodes n ≡ some x) × (x.alive ≡ true)
      go true e q more =
          let l = a.0 in
          (l.0, subst (λ (k : ℕ). node_at m.nodes k ≡ some l.0) (eqb-true r.node.0 n e) l.1, l.2)
      go false e q more = more q

  -- a holder that has just been made, and is shown the map
  module _ (me incarnation fresh : ℕ) (listed : holds me i.replicas ≡ true)
      (own : (r : Replica) (place : ℕ) → nth i.replicas place ≡ some r → r.node.0 ≡ me → incarnation ≡ r.incarnation) where
    abbrev new : Node
    new = empty_node me incarnation

    shown-takes : call_shown new fresh m ≡ take_map new m
    unfolding call_shown shown_with on_map well_formed_header rising every ◌and◌
    shown-takes =
        let l = live_holder i.replicas c.live me listed in
        rw (c.well_formed, le-ltb m.version 0 (omega arith), not_dead new m.nodes l.0 rise l.1 l.2)

    pub shown_holder : Shown m i me (call_shown new fresh m).after
    unfolding take_map
    shown_holder =
        rw shown-takes
        (by-test (λ (v : Result ShownAnswer Node). v.after.held ≡ (take_map new m).after.held → Shown m i me v.after)
        (too_many (showings new m m.shards))
        (λ q e. record { id = own-number i.replicas me; held = e; listed = own })
        (λ q e. record { id = own-number i.replicas me; held = e; listed = own })
        refl)

  -- a node that is no holder, and holds nothing, whatever it was shown; its id is any but a holder's
  module _ (me : ℕ) (n : Node) (unlisted : holds me i.replicas ≡ false) (apart : holds n.id i.replicas ≡ false) (empty : n.held ≡ []) where
    not_listed : (rs : List Replica) → holds me rs ≡ false → any (listed_as me n.incarnation) rs ≡ false
    unfolding holds any ◌and◌
    not_listed [] h = refl
    not_listed (r ∷ rs) h = go (eqb r.node.0 me) refl h (not_listed rs)
      where
        go : (b : Bool) → eqb r.node.0 me ≡ b → cond b true (any (is_on me) rs) ≡ false
            → (any (is_on me) rs ≡ false → any (listed_as me n.incarnation) rs ≡ false)
            → cond (b and eqb r.incarnation n.incarnation) true (any (listed_as me n.incarnation) rs) ≡ false
        go true e q more = not_both true refl q
        go false e q more = more q

    abbrev none-held : Node
    none-held = empty_node me n.incarnation

    nothing : (take_map none-held m).after.held ≡ []
    unfolding take_map showings show_shard any ◌or◌
    nothing = rw (c.only, not_listed i.replicas unlisted)

    holder_at : (rs : List Replica) (place : ℕ) (r : Replica) → nth rs place ≡ some r → holds r.node.0 rs ≡ true
    unfolding holds any nth
    holder_at [] place r e = none_some e
    holder_at (x ∷ xs) zero r e = let q : x ≡ r = cc in rw (q, eq-eqb r.node.0 r.node.0 refl)
    holder_at (x ∷ xs) (suc p) r e =
        by-test (λ v. v ≡ true) (eqb x.node.0 r.node.0) (λ q. refl) (λ q. holder_at xs p r e)

    pub shown-other : Shown m i me n
    shown-other = record {
      id = ids.apart i.replicas me n.id unlisted apart;
      held = empty ∙ sym nothing;
      listed = λ r place at same. not_both (holds me i.replicas) (rw (← same) (holder_at i.replicas place r at)) unlisted;
    }

-- ---- all of it

-- the state in which each holder has been made under its incarnation and shown the map; all others have been made, under one id
unfoldable pub started : (m : Map) (i : ShardInfo) → (other : ℕ) → (incarnation fresh clients : ℕ → ℕ) → State
started m i other incarnation fresh clients = record {
  map = m;
  nodes =
      λ n. cond (holds n i.replicas) (call_shown (empty_node n (incarnation n)) (fresh n) m).after (empty_node other (incarnation n));
  clients = clients;
  requests = λ a b. [];
  replies = [];
  offers = [];
  outcomes = [];
  accepted = [];
  acknowledged = [];
}

-- Register, Create and the first maps shown give a fresh state
unfoldable pub started-fresh : (m : Map) (i : ShardInfo) → Created m i → (other : ℕ) → holds other i.replicas ≡ false → (incarnation fresh clients : ℕ → ℕ)
    → ((r : Replica) (place : ℕ) → nth i.replicas place ≡ some r → incarnation r.node.0 ≡ r.incarnation)
    → ((n : ℕ) → U64 (clients n)) → Fresh (started m i other incarnation fresh clients)
unfolding started
started-fresh m i c other apart incarnation fresh clients listed fit = record {
  shard = i;
  created = c;
  shown =
      λ n. by-test (Shown m i n) (holds n i.replicas)
      (λ h. shown_holder m i c n (incarnation n) (fresh n) h
      (λ r place at same. subst (λ (k : ℕ). incarnation k ≡ r.incarnation) same (listed r place at)))
      (λ h. shown-other m i c n (empty_node other (incarnation n)) h apart refl);
  clients = fit;
  requests = λ a b. refl;
  replies = refl;
  offers = refl;
  outcomes = refl;
  accepted = refl;
  acknowledged = refl;
}
