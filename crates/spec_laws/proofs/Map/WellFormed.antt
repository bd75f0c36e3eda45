-- A well-formed map stays well formed under every request whose names, addresses and lists are within their limits, so the engine never
-- refuses its own map with 24. Assumes nothing.
use mathlib.Core.Path.{◌≡◌, refl, sym, ap, ◌∙◌, subst}
use mathlib.Core.Bool.{Bool, true, false, cond, not}
use mathlib.Core.List.{List, [], ◌∷◌, ◌++◌, map}
use mathlib.Core.Option.{Option, none, some}
use Prim.Native.Nat.{ℕ, zero, suc, ◌+◌, ◌≤◌, ◌<◌}
use native.Mathlib.Omega.{arith}
use lib.ListN.{length, length-map, length-append}
use lib.Dec.{eqb, ltb, leb}
use borrow.Author.Tests.{ltb-true, ltb-false, leb-true, leb-false, le-leb, lt-ltb, le-ltb, eqb-true, eqb-false, eq-eqb, ne_eqb, not-true}
use Rattle.spec.specs.Lists.{◌and◌, every, any, find, filter, rising, put}
use Rattle.spec.specs.Limits.{max_nodes, max_collections, max_shards, max_replicas, max_clients, max_name, max_listed, max_u64}
use Rattle.spec.specs.Keys.{Name, Key, key_below, name_below, same_key, same_name}
use Rattle.spec.specs.Refusals.{Rejection, Refusal, no_room, no_shard, other_epoch, not_alive, already_held}
use Rattle.spec.specs.Map.Tables.{NodeInfo, Spec, Collection, ShardInfo, Outcome, applied, rejected, Session, Map, empty_map, Answer, outcome, refused}
use Rattle.spec.specs.Map.Change.{Change, add, remove, promote, shrink, expand, accepts, rejects, decide_change, changed, holds, is_on, is_id, node_id, id_below, without, deposed, is_primary, in_sync}
use Rattle.spec.specs.Map.Create.{Placement, is_node, node_at, has_collection, zero_in, matches, first_not_alive, add_all, replica_of, new_shard, with_shards, created_shards, created_collections, create_room, create_on, create_answer, shard_below, collection_below}
use Rattle.spec.specs.Map.Apply.{update, node_below, session_below, is_shard, is_client, shard_at, session_at, register_answer, dead_answer, change_answer, decide, commit, change_shard, dead, Applied, apply, apply_to, settle, remembered, sets_version}
use Rattle.spec.specs.Map.WellFormed.{name_fits, node_fits, collection_fits, shard_fits, rejection_fits, outcome_fits, session_fits, table_fits, well_formed_map, command_fits}
use Rattle.spec.specs.Layout.Request.{Request, Command, create, drop_collection, register, mark_dead, add_replica, remove_replica, promote_primary, shrink_in_sync, expand_in_sync, bench}
use Rattle.spec.specs.declared.DataNodeId.{DataNodeId}
use Rattle.spec.specs.declared.Replica.{Replica}
use Rattle.spec_laws.proofs.Lists.{by-test, not_both, and_true, and_left, and_right}
use Rattle.spec_laws.proofs.Rising.{ByKey, put-rising, filter-rising}
use Rattle.spec_laws.proofs.Map.Rows.{every_tail, every_cons, every-put, every-kept, every_to, every-filter, every-update, every_update_at, every-find, length-update, length-filter, put-most, put-level, update-rising, find_true}
use Rattle.spec_laws.proofs.Map.Orders.{Order, numbers, names, keys, nodes_by_id, ids, collections_by_name, shards_by_key, sessions_by_client}
use Rattle.spec_laws.proofs.Map.Sets.{holds-append, any-filter}
use Rattle.spec_laws.proofs.Map.Shards.{changed-key, expand_taken, command_of, change-taken, commit-change}

-- ---- a table, by its three parts

module _ {ℓ} {A : Type ℓ} (limit : ℕ) (lt : A → A → Bool) (row : A → Bool) where
  abbrev pub Fits : List A → Type 0
  Fits l = (length l ≤ limit) × (rising lt l ≡ true) × (every row l ≡ true)

  pub table-parts : (l : List A) → table_fits limit lt row l ≡ true → Fits l
  unfolding table_fits
  table-parts l h =
      let r = and_right (leb (length l) limit) _ h in
      (leb-true _ _ (and_left (leb (length l) limit) _ h), and_left (rising lt l) _ r, and_right (rising lt l) _ r)

  pub table-whole : (l : List A) → Fits l → table_fits limit lt row l ≡ true
  unfolding table_fits
  table-whole l f = and_true _ _ (le-leb _ _ f.0) (and_true _ _ f.1 f.2)

abbrev pub WellFormed : Map → Type 0
WellFormed m =
    Fits max_nodes node_below node_fits m.nodes × Fits max_collections collection_below collection_fits m.collections
    × Fits max_shards shard_below shard_fits m.shards × Fits max_clients session_below session_fits m.sessions

pub map-parts : (m : Map) → well_formed_map m ≡ true → WellFormed m
unfolding well_formed_map
map-parts m h =
    let n = table_fits max_nodes node_below node_fits m.nodes in
    let c = table_fits max_collections collection_below collection_fits m.collections in
    let s = table_fits max_shards shard_below shard_fits m.shards in
    let r = and_right n _ h in
    let q = and_right c _ r in (
      table-parts _ _ _ m.nodes (and_left n _ h),
      table-parts _ _ _ m.collections (and_left c _ r),
      table-parts _ _ _ m.shards (and_left s _ q),
      table-parts _ _ _ m.sessions (and_right s _ q),
    )

pub map_whole : (m : Map) → WellFormed m → well_formed_map m ≡ true
unfolding well_formed_map
map_whole m w =
    and_true _ _ (table-whole _ _ _ m.nodes w.0)
    (and_true _ _ (table-whole _ _ _ m.collections w.1)
    (and_true _ _ (table-whole _ _ _ m.shards w.2) (table-whole _ _ _ m.sessions w.3)))

-- ---- one shard

abbrev pub ShardFits : ShardInfo → Type 0
ShardFits s =
    (name_fits s.key.collection ≡ true) × (length s.replicas ≤ max_replicas) × (rising id_below s.insync ≡ true)
    × (every (λ (d : DataNodeId). holds d.0 s.replicas) s.insync ≡ true)

pub shard-parts : (s : ShardInfo) → shard_fits s ≡ true → ShardFits s
unfolding shard_fits
shard-parts s h =
    let n = name_fits s.key.collection in
    let c = leb (length s.replicas) max_replicas in
    let r = rising id_below s.insync in
    let h₁ = and_right n _ h in
    let h₂ = and_right c _ h₁ in
    (and_left n _ h, leb-true _ _ (and_left c _ h₁), and_left r _ h₂, and_right r _ h₂)

pub shard-whole : (s : ShardInfo) → ShardFits s → shard_fits s ≡ true
unfolding shard_fits
shard-whole s f = and_true _ _ f.0 (and_true _ _ (le-leb _ _ f.1) (and_true _ _ f.2 f.3))

-- every in_sync_lem node holds
abbrev Holders : List Replica → List DataNodeId → Type 0
Holders rs ds = every (λ (d : DataNodeId). holds d.0 rs) ds ≡ true

-- a node taken out of both leaves the rest holders
holders-without : (n : ℕ) (rs : List Replica) (ds : List DataNodeId) → Holders rs ds
    → Holders (filter (λ r. not (is_on n r)) rs) (without n ds)
unfolding without holds
holders-without n rs ds h =
    every-kept (λ (d : DataNodeId). any (is_on d.0) rs) (λ (d : DataNodeId). any (is_on d.0) (filter (λ r. not (is_on n r)) rs))
    (λ (d : DataNodeId). not (is_id n d)) keeps ds h
  where
    keeps : (d : DataNodeId) → not (is_id n d) ≡ true → any (is_on d.0) rs ≡ true → any (is_on d.0) (filter (λ r. not (is_on n r)) rs) ≡ true
    keeps d e q =
        any-filter (λ r. not (is_on n r)) (is_on d.0) rs
        (λ r f. rw (ne_eqb r.node.0 n (λ g. eqb-false d.0 n (not-true (is_id n d) e) (sym (eqb-true r.node.0 d.0 f) ∙ g))))
        ∙ q

deposed-rises : (n : ℕ) (o : Option ℕ) (ds : List DataNodeId) → rising id_below ds ≡ true → rising id_below (deposed n o ds) ≡ true
unfolding deposed without
deposed-rises n none ds h = h
deposed-rises n (some p) ds h =
    by-test (λ (v : List DataNodeId). rising id_below v ≡ true) (eqb p n) (λ e. h) (λ e. filter-rising id_below ids _ ds h)

deposed-holds : (n : ℕ) (o : Option ℕ) (rs : List Replica) (ds : List DataNodeId) → Holders rs ds → Holders rs (deposed n o ds)
unfolding deposed without
deposed-holds n none rs ds h = h
deposed-holds n (some p) rs ds h = by-test (Holders rs) (eqb p n) (λ e. h) (λ e. every-filter _ _ ds h)

-- a change that is taken leaves the shard well formed
change-fits : (s : ShardInfo) (c : Change) → shard_fits s ≡ true → decide_change s c ≡ accepts → shard_fits (changed s c) ≡ true
unfolding changed decide_change without
change-fits s (add n i) h = go (holds n s.replicas) (leb max_replicas (length s.replicas)) refl
  where
    f : ShardFits s
    f = shard-parts s h

    go : (p q : Bool) → leb max_replicas (length s.replicas) ≡ q → cond p (rejects (already_held n)) (cond q (refused no_room) accepts) ≡ accepts
        → shard_fits (changed s (add n i)) ≡ true
    go true q e d = let z : ◌≡◌ {A = ℕ} 0 1 = cc in absurd (omega arith)
    go false true e d = let z : ◌≡◌ {A = ℕ} 0 1 = cc in absurd (omega arith)
    go false false e d =
        shard-whole (changed s (add n i)) (
          f.0,
          simp length-append (omega (arith, leb-false max_replicas (length s.replicas) e)),
          f.2,
          every_to (λ (d : DataNodeId). holds d.0 s.replicas) _ (λ d. holds-append d.0 s.replicas _) s.insync f.3,
        )
change-fits s (remove n) h = λ d.
    let f = shard-parts s h in
    let short = length-filter (λ r. not (is_on n r)) s.replicas in
    shard-whole (changed s (remove n)) (f.0, omega arith, filter-rising id_below ids _ s.insync f.2, holders-without n s.replicas s.insync f.3)
change-fits s (promote n) h = λ d.
    let f = shard-parts s h in
    shard-whole (changed s (promote n))
    (f.0, f.1, deposed-rises n s.primary s.insync f.2, deposed-holds n s.primary s.replicas s.insync f.3)
change-fits s (shrink n) h = λ d.
    let f = shard-parts s h in
    shard-whole (changed s (shrink n)) (f.0, f.1, filter-rising id_below ids _ s.insync f.2, every-filter _ _ s.insync f.3)
change-fits s (expand n) h = λ d.
    let f = shard-parts s h in
    shard-whole (changed s (expand n)) (
      f.0,
      f.1,
      put-rising id_below ids (node_id n) s.insync f.2,
      every-put (λ (d : DataNodeId). holds d.0 s.replicas) id_below (node_id n) s.insync (expand_taken s n d).0 f.3,
    )

-- ---- the shards of Create

added_rises : (ds : List DataNodeId) (l : List ℕ) → rising id_below ds ≡ true → rising id_below (add_all ds l) ≡ true
unfolding add_all
added_rises ds [] h = h
added_rises ds (n ∷ l) h = added_rises (put id_below (node_id n) ds) l (put-rising id_below ids (node_id n) ds h)

added_holds : (rs : List Replica) (ds : List DataNodeId) (l : List ℕ) → Holders rs ds → every (λ n. holds n rs) l ≡ true → Holders rs (add_all ds l)
unfolding add_all
added_holds rs ds [] h e = h
added_holds rs ds (n ∷ l) h e =
    let t = every_tail (λ n. holds n rs) n l e in
    added_holds rs (put id_below (node_id n) ds) l (every-put (λ (d : DataNodeId). holds d.0 rs) id_below (node_id n) ds t.0 h) t.1

-- every node of a list holds what is made of the list
listed_hold : (ns : List NodeInfo) (l : List ℕ) → every (λ n. holds n (map (replica_of ns) l)) l ≡ true
unfolding every holds any
listed_hold ns [] = refl
listed_hold ns (n ∷ l) =
    every_cons (λ k. any (is_on k) (replica_of ns n ∷ map (replica_of ns) l)) n l
    (rw (eq-eqb n n refl))
    (every_to (λ k. any (is_on k) (map (replica_of ns) l)) _ (λ k h. by-test (λ v. v ≡ true) (eqb n k) (λ e. refl) (λ e. h)) l (listed_hold ns l))

new-fits : (ns : List NodeInfo) (name : Name) (i : ℕ) (l : List ℕ) → name_fits name ≡ true → leb (length l) max_listed ≡ true
    → shard_fits (new_shard ns name i l) ≡ true
unfolding new_shard every rising
new-fits ns name i l h e =
    shard-whole (new_shard ns name i l)
    (h, rw (length-map l (replica_of ns)) (leb-true _ _ e), added_rises [] l refl, added_holds (map (replica_of ns) l) [] l refl (listed_hold ns l))

with-rises : (ss : List ShardInfo) (ns : List NodeInfo) (name : Name) (i : ℕ) (p : Placement) → rising shard_below ss ≡ true
    → rising shard_below (with_shards ss ns name i p) ≡ true
unfolding with_shards
with-rises ss ns name i [] h = h
with-rises ss ns name i (l ∷ ls) h = with-rises (put shard_below (new_shard ns name i l) ss) ns name (suc i) ls (put-rising shard_below shards_by_key (new_shard ns name i l) ss h)

with-fits : (ss : List ShardInfo) (ns : List NodeInfo) (name : Name) (i : ℕ) (p : Placement) → name_fits name ≡ true
    → every (λ l. leb (length l) max_listed) p ≡ true → every shard_fits ss ≡ true → every shard_fits (with_shards ss ns name i p) ≡ true
unfolding with_shards
with-fits ss ns name i [] n e h = h
with-fits ss ns name i (l ∷ ls) n e h =
    let t = every_tail (λ l. leb (length l) max_listed) l ls e in
    with-fits (put shard_below (new_shard ns name i l) ss) ns name (suc i) ls n t.1 (every-put shard_fits shard_below (new_shard ns name i l) ss (new-fits ns name i l n t.0) h)

pub create_room_lem : (m : Map) (name : Name) (spec : Spec) (p : Placement) → create_answer m name spec p ≡ accepts
    → (length m.collections < max_collections) × (length (created_shards m name p) ≤ max_shards)
unfolding create_answer create_on create_room
create_room_lem m name spec p =
    by-test (λ (v : Answer). v ≡ accepts → Room) (has_collection name m.collections) (λ q e. no' e)
    (λ q. by-test (λ (v : Answer). v ≡ accepts → Room) (zero_in spec) (λ q e. no' e)
    (λ q. by-test (λ (v : Answer). v ≡ accepts → Room) (matches spec p) (λ q. on (first_not_alive m.nodes p)) (λ q e. no' e)))
  where
    Room : Type 0
    Room = (length m.collections < max_collections) × (length (created_shards m name p) ≤ max_shards)

    no' : {why : Rejection} → rejects why ≡ accepts → Room
    no' e = let z : ◌≡◌ {A = ℕ} 0 1 = cc in absurd (omega arith)

    on : (o : Option ℕ) → create_on m name p o ≡ accepts → Room
    on none e =
        by-test (λ (v : Answer). v ≡ accepts → Room) (create_room m name p)
        (λ q w. (ltb-true _ _ (and_left (ltb (length m.collections) max_collections) _ q), leb-true _ _ (and_right (ltb (length m.collections) max_collections) _ q)))
        (λ q w. let z : ◌≡◌ {A = ℕ} 0 1 = cc in absurd (omega arith))
        e
    on (some n) e = no' e

-- ---- what is remembered

abbrev answer_fits : Answer → Bool
answer_fits (outcome o) = outcome_fits o
answer_fits (refused r) = true

abbrev FitAnswer : Answer → Type 0
FitAnswer a = answer_fits a ≡ true

change_answer_fits : (s : ShardInfo) (c : Change) → FitAnswer (decide_change s c)
unfolding decide_change
change_answer_fits s (add n i) = by-test FitAnswer (holds n s.replicas) (λ e. refl) (λ e. by-test FitAnswer (leb max_replicas (length s.replicas)) (λ f. refl) (λ f. refl))
change_answer_fits s (remove n) = by-test FitAnswer (is_primary n s.primary) (λ e. refl) (λ e. by-test FitAnswer (holds n s.replicas) (λ f. refl) (λ f. refl))
change_answer_fits s (promote n) = by-test FitAnswer (in_sync n s.insync) (λ e. by-test FitAnswer (eqb s.epoch max_u64) (λ f. refl) (λ f. refl)) (λ e. refl)
change_answer_fits s (shrink n) = by-test FitAnswer (is_primary n s.primary) (λ e. refl) (λ e. by-test FitAnswer (in_sync n s.insync) (λ f. refl) (λ f. refl))
change_answer_fits s (expand n) = by-test FitAnswer (holds n s.replicas) (λ e. by-test FitAnswer (in_sync n s.insync) (λ f. refl) (λ f. refl)) (λ e. refl)

shard_answer_fits : (k : Key) (e : ℕ) (c : Change) (o : Option ShardInfo) → name_fits k.collection ≡ true → FitAnswer (change_answer k e c o)
unfolding change_answer
shard_answer_fits k e c none h = h
shard_answer_fits k e c (some s) h = by-test FitAnswer (eqb s.epoch e) (λ q. change_answer_fits s c) (λ q. h)

create_answer_fits : (m : Map) (name : Name) (spec : Spec) (p : Placement) → name_fits name ≡ true → FitAnswer (create_answer m name spec p)
unfolding create_answer create_on
create_answer_fits m name spec p h =
    by-test FitAnswer (has_collection name m.collections) (λ q. h)
    (λ q. by-test FitAnswer (zero_in spec) (λ q. refl)
    (λ q. by-test FitAnswer (matches spec p) (λ q. on (first_not_alive m.nodes p)) (λ q. refl)))
  where
    on : (o : Option ℕ) → FitAnswer (create_on m name p o)
    on none = by-test FitAnswer (create_room m name p) (λ q. refl) (λ q. refl)
    on (some n) = refl

node_answer_fits : (m : Map) (n i : ℕ) (o : Option NodeInfo) → FitAnswer (register_answer m.nodes n i o) × FitAnswer (dead_answer n i o)
unfolding register_answer dead_answer
node_answer_fits m n i none = (by-test FitAnswer (ltb (length m.nodes) max_nodes) (λ q. refl) (λ q. refl), refl)
node_answer_fits m n i (some x) =
    (by-test FitAnswer (leb i x.incarnation) (λ q. refl) (λ q. refl), by-test FitAnswer (eqb x.incarnation i) (λ q. refl) (λ q. refl))

decide-fits : (m : Map) (c : Command) → command_fits c ≡ true → FitAnswer (decide m c)
unfolding decide command_fits
decide-fits m (create name spec p) h = create_answer_fits m name spec p (and_left (name_fits name) _ h)
decide-fits m (drop_collection name) h = by-test FitAnswer (has_collection name m.collections) (λ q. refl) (λ q. h)
decide-fits m (register n a i) h = (node_answer_fits m n i (node_at m.nodes n)).0
decide-fits m (mark_dead n i) h = (node_answer_fits m n i (node_at m.nodes n)).1
decide-fits m (add_replica k n i e) h = shard_answer_fits k e (add n i) (shard_at m.shards k) h
decide-fits m (remove_replica k n e) h = shard_answer_fits k e (remove n) (shard_at m.shards k) h
decide-fits m (promote_primary k n e) h = shard_answer_fits k e (promote n) (shard_at m.shards k) h
decide-fits m (shrink_in_sync k n e) h = shard_answer_fits k e (shrink n) (shard_at m.shards k) h
decide-fits m (expand_in_sync k n e) h = shard_answer_fits k e (expand n) (shard_at m.shards k) h
decide-fits m (bench bs) h = refl

-- ---- what is committed

module _ (m : Map) (w : WellFormed m) where
  create_fits_lem : (name : Name) (spec : Spec) (p : Placement) → command_fits (create name spec p) ≡ true → create_answer m name spec p ≡ accepts
      → WellFormed (commit m (create name spec p))
  unfolding commit command_fits created_collections created_shards
  create_fits_lem name spec p h e =
      let r = create_room_lem m name spec p e in
      let more = put-most collection_below (record { name = name; spec = spec }) m.collections in (
        w.0,
        (
          omega arith,
          put-rising collection_below collections_by_name _ m.collections w.1.1,
          every-put collection_fits collection_below _ m.collections (and_left (name_fits name) _ h) w.1.2,
        ),
        (r.1, with-rises m.shards m.nodes name 0 p w.2.1, with-fits m.shards m.nodes name 0 p (and_left (name_fits name) _ h) (and_right (name_fits name) _ h) w.2.2),
        w.3,
      )

  drop-fits : (name : Name) → WellFormed (commit m (drop_collection name))
  unfolding commit
  drop-fits name =
      let c = length-filter (λ (c : Collection). not (same_name c.name name)) m.collections in
      let s = length-filter (λ (s : ShardInfo). not (same_name s.key.collection name)) m.shards in (
        w.0,
        (omega arith, filter-rising collection_below collections_by_name _ m.collections w.1.1, every-filter collection_fits _ m.collections w.1.2),
        (omega arith, filter-rising shard_below shards_by_key _ m.shards w.2.1, every-filter shard_fits _ m.shards w.2.2),
        w.3,
      )

  register_fits : (n : ℕ) (a : Name) (i : ℕ) → command_fits (register n a i) ≡ true → decide m (register n a i) ≡ accepts
      → WellFormed (commit m (register n a i))
  unfolding commit command_fits decide node_at register_answer
  register_fits n a i h e = (
    (room (find (is_node n) m.nodes) refl e, put-rising node_below nodes_by_id _ m.nodes w.0.1, every-put node_fits node_below _ m.nodes h w.0.2),
    w.1,
    w.2,
    w.3,
  )
    where
      new : NodeInfo
      new = record { node = n; address = a; incarnation = i; alive = true }

      room : (o : Option NodeInfo) → find (is_node n) m.nodes ≡ o → register_answer m.nodes n i o ≡ accepts → length (put node_below new m.nodes) ≤ max_nodes
      room none f q =
          by-test (λ (v : Answer). v ≡ accepts → length (put node_below new m.nodes) ≤ max_nodes) (ltb (length m.nodes) max_nodes)
          (λ t v. omega (arith, ltb-true (length m.nodes) max_nodes t, put-most node_below new m.nodes))
          (λ t v. let z : ◌≡◌ {A = ℕ} 0 1 = cc in absurd (omega arith))
          q
      room (some x) f q =
          rw (put-level node_below nodes_by_id (λ a b. numbers.apart a.node b.node) (is_node n) new m.nodes x
          (λ z t. (le-ltb n z.node (omega (arith, eqb-true z.node n t)), le-ltb z.node n (omega (arith, eqb-true z.node n t))))
          w.0.1 f)
          w.0.0

  dead-fits : (n i : ℕ) → WellFormed (commit m (mark_dead n i))
  unfolding commit
  dead-fits n i = (
    (
      rw (length-update (is_node n) dead m.nodes) w.0.0,
      update-rising node_below nodes_by_id (is_node n) dead (λ a b. refl) (λ a b. refl) m.nodes w.0.1,
      every-update (is_node n) dead node_fits (λ x e r. r) m.nodes w.0.2,
    ),
    w.1,
    w.2,
    w.3,
  )

  changed-fits : (k : Key) (e : ℕ) (c : Change) → decide m (command_of k e c) ≡ accepts → WellFormed (change_shard m k c)
  unfolding change_shard shard_at
  changed-fits k e c h =
      let t = change-taken m k e c h in (
        w.0,
        w.1,
        (
          rw (length-update (is_shard k) (λ s. changed s c) m.shards) w.2.0,
          update-rising shard_below shards_by_key (is_shard k) (λ s. changed s c)
              (λ a b. ap (λ (j : Key). key_below j b.key) (changed-key a c)) (λ a b. ap (λ (j : Key). key_below a.key j) (changed-key b c))
              m.shards w.2.1,
          fits t.0 t.1 t.3,
        ),
        w.3,
      )
    where
      fits : (s : ShardInfo) → shard_at m.shards k ≡ some s → decide_change s c ≡ accepts
          → every shard_fits (update (is_shard k) (λ s. changed s c) m.shards) ≡ true
      fits s at q = every_update_at (is_shard k) (λ s. changed s c) shard_fits m.shards s (found at) (change-fits s c (every-find shard_fits (is_shard k) m.shards s w.2.2 (found at)) q) w.2.2
        where
          found : shard_at m.shards k ≡ some s → find (is_shard k) m.shards ≡ some s
          found e = e

  -- a command that takes effect leaves the map well formed
  pub commit-fits : (c : Command) → command_fits c ≡ true → decide m c ≡ accepts → WellFormed (commit m c)
  unfolding decide commit
  commit-fits (create name spec p) h e = create_fits_lem name spec p h e
  commit-fits (drop_collection name) h e = drop-fits name
  commit-fits (register n a i) h e = register_fits n a i h e
  commit-fits (mark_dead n i) h e = dead-fits n i
  commit-fits (add_replica k n i e) h d = rw (commit-change m k e (add n i)) (changed-fits k e (add n i) d)
  commit-fits (remove_replica k n e) h d = rw (commit-change m k e (remove n)) (changed-fits k e (remove n) d)
  commit-fits (promote_primary k n e) h d = rw (commit-change m k e (promote n)) (changed-fits k e (promote n) d)
  commit-fits (shrink_in_sync k n e) h d = rw (commit-change m k e (shrink n)) (changed-fits k e (shrink n) d)
  commit-fits (expand_in_sync k n e) h d = rw (commit-change m k e (expand n)) (changed-fits k e (expand n) d)
  commit-fits (bench bs) h e = w

-- the sessions are not committed
commit-sessions : (m : Map) (c : Command) → (commit m c).sessions ≡ m.sessions
unfolding commit change_shard
commit-sessions m (create name spec p) = refl
commit-sessions m (drop_collection name) = refl
commit-sessions m (register n a i) = refl
commit-sessions m (mark_dead n i) = refl
commit-sessions m (add_replica k n i e) = refl
commit-sessions m (remove_replica k n e) = refl
commit-sessions m (promote_primary k n e) = refl
commit-sessions m (shrink_in_sync k n e) = refl
commit-sessions m (expand_in_sync k n e) = refl
commit-sessions m (bench bs) = refl

-- ---- the request

module _ (m : Map) (r : Request) (w : WellFormed m) (h : command_fits r.command ≡ true) where
  -- a place for the session: the client has one, or there is room
  abbrev Place : Type 0
  Place = (o : Outcome) → length (put session_below (record { client = r.client; seq = r.seq; outcome = o }) m.sessions) ≤ max_clients

  place-known : (s : Session) → find (is_client r.client) m.sessions ≡ some s → Place
  place-known s f o =
      rw (put-level session_below sessions_by_client (λ a b. numbers.apart a.client b.client) (is_client r.client) (record { client = r.client; seq = r.seq; outcome = o }) m.sessions s
      (λ z t. (le-ltb r.client z.client (omega (arith, eqb-true z.client r.client t)), le-ltb z.client r.client (omega (arith, eqb-true z.client r.client t))))
      w.3.1 f)
      w.3.0

  place-new : length m.sessions < max_clients → Place
  place-new q o = omega (arith, put-most session_below (record { client = r.client; seq = r.seq; outcome = o }) m.sessions)

  remembered-fits : Place → (n : Map) (o : Outcome) (version : ℕ) → WellFormed n → n.sessions ≡ m.sessions → outcome_fits o ≡ true
      → WellFormed (remembered n r o version)
  unfolding remembered
  remembered-fits room n o version v same f = (
    v.0,
    v.1,
    v.2,
    subst (Fits max_clients session_below session_fits) (ap (put session_below (record { client = r.client; seq = r.seq; outcome = o })) (sym same))
        (room o, put-rising session_below sessions_by_client _ m.sessions w.3.1, every-put session_fits session_below _ m.sessions f w.3.2),
  )

  settle-fits : Place → WellFormed (settle m r (decide m r.command)).map
  unfolding settle
  settle-fits room = go (decide m r.command) refl (decide-fits m r.command h)
    where
      go : (a : Answer) → decide m r.command ≡ a → FitAnswer a → WellFormed (settle m r a).map
      go (outcome applied) e f =
          remembered-fits room (commit m r.command) applied _ (commit-fits m w r.command h e) (commit-sessions m r.command) refl
      go (outcome (rejected why)) e f = remembered-fits room m (rejected why) _ w refl f
      go (refused why) e f = w

  parts-kept : WellFormed (apply m r).map
  unfolding apply apply_to session_at
  parts-kept = go (find (is_client r.client) m.sessions) refl
    where
      go : (o : Option Session) → find (is_client r.client) m.sessions ≡ o → WellFormed (apply_to m r o).map
      go none e =
          by-test (λ (v : Applied). WellFormed v.map) (ltb (length m.sessions) max_clients)
          (λ q. settle-fits (place-new (ltb-true _ _ q)))
          (λ q. w)
      go (some s) e =
          by-test (λ (v : Applied). WellFormed v.map) (ltb r.seq s.seq)
          (λ q. w)
          (λ q. by-test (λ (v : Applied). WellFormed v.map) (eqb r.seq s.seq) (λ t. w) (λ t. settle-fits (place-known s e)))

-- 24 never strikes the engine's own map
pub stays_well_formed : (m : Map) (r : Request) → well_formed_map m ≡ true → command_fits r.command ≡ true → well_formed_map (apply m r).map ≡ true
stays_well_formed m r w h = map_whole (apply m r).map (parts-kept m r (map-parts m w) h)

pub empty_well_formed : well_formed_map empty_map ≡ true
unfolding well_formed_map table_fits ◌and◌ rising every
empty_well_formed = refl
