-- Paper 01, 'The shard map' and 'Who is turned down', Apply (state.rs, StateMachine): deciding a command, committing it, and the
-- sessions around it. Create's part is in Create, that of the commands with a shard in Change. Definitions only.
use Rattle.std.specs.Prelude.{ℕ, Bool, true, false, cond, not, List, [], ◌∷◌, length, eqb, leb, ltb}
use Rattle.std.proofs.Math.Option.{Option, none, some}
use Rattle.spec.specs.Lists.{find, filter, put}
use Rattle.spec.specs.Limits.{max_nodes, max_clients}
use Rattle.spec.specs.Keys.{Name, Key, same_name, same_key}
use Rattle.spec.specs.Refusals.{older, no_collection, known_incarnation, not_at_incarnation, no_shard, other_epoch, Refusal, no_room}
use Rattle.spec.specs.Map.Tables.{NodeInfo, Spec, Collection, ShardInfo, Outcome, applied, rejected, Session, Map, Answer, outcome, refused}
use Rattle.spec.specs.Map.Change.{Change, add, remove, promote, shrink, expand, accepts, rejects, decide_change, changed}
use Rattle.spec.specs.Map.Create.{Placement, is_node, node_at, has_collection, created_shards, created_collections, create_answer}
use Rattle.spec.specs.Layout.Request.{Command, create, drop_collection, register, mark_dead, add_replica, remove_replica, promote_primary, shrink_in_sync, expand_in_sync, bench, Request}

-- ---- one row of a table

-- get_mut of a table: the first row that passes, changed
unfoldable pub update {ℓ} : {A : Type ℓ} → (A → Bool) → (A → A) → List A → List A
update p f [] = []
update p f (x ∷ xs) = let r = update p f xs in cond (p x) (f x ∷ xs) (x ∷ r)

-- 'sorted keys': nodes by id
abbrev pub node_below : NodeInfo → NodeInfo → Bool
node_below a b = ltb a.node b.node

-- the shard of a key
abbrev pub is_shard : Key → ShardInfo → Bool
is_shard k s = same_key s.key k

-- state.rs, map.shards.get
unfoldable pub shard_at : List ShardInfo → Key → Option ShardInfo
shard_at ss k = find (is_shard k) ss

-- the session of a client
abbrev pub is_client : ℕ → Session → Bool
is_client c s = eqb s.client c

-- 'sorted keys': sessions by client
abbrev pub session_below : Session → Session → Bool
session_below a b = ltb a.client b.client

-- state.rs, sessions.get
unfoldable pub session_at : List Session → ℕ → Option Session
session_at ss c = find (is_client c) ss

-- ---- deciding

-- Register: 7, 23
unfoldable pub register_answer : List NodeInfo → (node incarnation : ℕ) → Option NodeInfo → Answer
register_answer ns n i none = cond (ltb (length ns) max_nodes) accepts (refused no_room)
register_answer ns n i (some known) =
    cond (leb i known.incarnation) (rejects (known_incarnation n known.incarnation)) accepts

-- MarkNodeDead: 8
unfoldable pub dead_answer : (node incarnation : ℕ) → Option NodeInfo → Answer
dead_answer n i none = rejects (not_at_incarnation n i)
dead_answer n i (some known) = cond (eqb known.incarnation i) accepts (rejects (not_at_incarnation n i))

-- 'those with a shard' (state.rs, with_shard): 9, 10, then the change's own
unfoldable pub change_answer : Key → (epoch : ℕ) → Change → Option ShardInfo → Answer
change_answer k e c none = rejects (no_shard k)
change_answer k e c (some s) = cond (eqb s.epoch e) (decide_change s c) (rejects (other_epoch k s.epoch e))

-- 'Who is turned down': the answer of each command, with nothing changed yet
unfoldable pub decide : Map → Command → Answer
decide m (create name spec p) = create_answer m name spec p
decide m (drop_collection name) = cond (has_collection name m.collections) accepts (rejects (no_collection name))
decide m (register n a i) = register_answer m.nodes n i (node_at m.nodes n)
decide m (mark_dead n i) = dead_answer n i (node_at m.nodes n)
decide m (add_replica k n i e) = change_answer k e (add n i) (shard_at m.shards k)
decide m (remove_replica k n e) = change_answer k e (remove n) (shard_at m.shards k)
decide m (promote_primary k n e) = change_answer k e (promote n) (shard_at m.shards k)
decide m (shrink_in_sync k n e) = change_answer k e (shrink n) (shard_at m.shards k)
decide m (expand_in_sync k n e) = change_answer k e (expand n) (shard_at m.shards k)
decide m (bench bs) = accepts

-- ---- committing

-- the map with other nodes
abbrev pub set_nodes : Map → List NodeInfo → Map
set_nodes m ns = record { version = m.version; nodes = ns; collections = m.collections; shards = m.shards; sessions = m.sessions }

-- the map with other collections and shards
abbrev pub set_collections : Map → List Collection → List ShardInfo → Map
set_collections m cs ss = record { version = m.version; nodes = m.nodes; collections = cs; shards = ss; sessions = m.sessions }

-- the map with other shards
abbrev pub set_shards : Map → List ShardInfo → Map
set_shards m ss = set_collections m m.collections ss

-- state.rs, with_shard: one shard changed
unfoldable pub change_shard : Map → Key → Change → Map
change_shard m k c = set_shards m (update (is_shard k) (λ s. changed s c) m.shards)

-- state.rs, MarkNodeDead: the row, marked
abbrev pub dead : NodeInfo → NodeInfo
dead i = record { node = i.node; address = i.address; incarnation = i.incarnation; alive = false }

-- state.rs, execute: what a command that takes effect makes of the map
unfoldable pub commit : Map → Command → Map
commit m (create name spec p) = set_collections m (created_collections m name spec) (created_shards m name p)
commit m (drop_collection name) =
    set_collections m (filter (λ c. not (same_name c.name name)) m.collections)
    (filter (λ s. not (same_name s.key.collection name)) m.shards)
commit m (register n a i) =
    set_nodes m (put node_below (record { node = n; address = a; incarnation = i; alive = true }) m.nodes)
commit m (mark_dead n i) = set_nodes m (update (is_node n) dead m.nodes)
commit m (add_replica k n i e) = change_shard m k (add n i)
commit m (remove_replica k n e) = change_shard m k (remove n)
commit m (promote_primary k n e) = change_shard m k (promote n)
commit m (shrink_in_sync k n e) = change_shard m k (shrink n)
commit m (expand_in_sync k n e) = change_shard m k (expand n)
commit m (bench bs) = m

-- ---- the sessions around it

-- the answer to a request, with the map afterwards
pub record Applied : Type 0 where
  pub answer : Answer
  pub map : Map

-- 'The shard map': every applied command but Bench sets the version
abbrev pub sets_version : Command → Bool
sets_version (create name spec p) = true
sets_version (drop_collection name) = true
sets_version (register n a i) = true
sets_version (mark_dead n i) = true
sets_version (add_replica k n i e) = true
sets_version (remove_replica k n e) = true
sets_version (promote_primary k n e) = true
sets_version (shrink_in_sync k n e) = true
sets_version (expand_in_sync k n e) = true
sets_version (bench bs) = false

-- 'The shard map': an outcome is remembered by client
unfoldable pub remembered : Map → Request → Outcome → ℕ → Map
remembered m r o version = record {
  version = version;
  nodes = m.nodes;
  collections = m.collections;
  shards = m.shards;
  sessions = put session_below (record { client = r.client; seq = r.seq; outcome = o }) m.sessions;
}

-- 'The shard map': an applied command is committed and remembered, a rejected one remembered; '21 to 26 remember nothing'
unfoldable pub settle : Map → Request → Answer → Applied
settle m r (outcome applied) = record {
  answer = accepts;
  map = remembered (commit m r.command) r applied (cond (sets_version r.command) r.index m.version);
}
settle m r (outcome (rejected why)) = record { answer = rejects why; map = remembered m r (rejected why) m.version }
settle m r (refused why) = record { answer = refused why; map = m }

-- 'Who is turned down', Apply: 1 an older command, not remembered; an equal seq repeats the old outcome; 23 a 65th client
unfoldable pub apply_to : Map → Request → Option Session → Applied
apply_to m r none =
    cond (ltb (length m.sessions) max_clients) (settle m r (decide m r.command))
    (record { answer = refused no_room; map = m })
apply_to m r (some s) =
    cond (ltb r.seq s.seq) (record { answer = rejects older; map = m })
    (cond (eqb r.seq s.seq) (record { answer = outcome s.outcome; map = m })
    (settle m r (decide m r.command)))

-- state.rs, apply
unfoldable pub apply : Map → Request → Applied
apply m r = apply_to m r (session_at m.sessions r.client)
