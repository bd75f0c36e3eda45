-- An answer that the map does not remember leaves the map as it was (paper 01, 'The shard map'): an older command, and every refusal. Assumes
-- nothing.
use Prim.Native.Nat.{ℕ}
use mathlib.Core.Path.{◌≡◌, refl}
use mathlib.Core.Bool.{Bool, true, false, not}
use mathlib.Core.Option.{Option, none, some}
use lib.ListN.{length}
use lib.Dec.{eqb, leb, ltb}
use Rattle.spec.specs.Limits.{max_u64, max_nodes, max_replicas, max_clients}
use Rattle.spec.specs.Keys.{Name, Key}
use Rattle.spec.specs.Refusals.{number_of}
use Rattle.spec.specs.Map.Tables.{NodeInfo, Spec, ShardInfo, applied, rejected, Session, Map, Answer, outcome, refused}
use Rattle.spec.specs.Map.Change.{Change, add, remove, promote, shrink, expand, decide_change, holds, in_sync, is_primary}
use Rattle.spec.specs.Map.Create.{Placement, node_at, has_collection, zero_in, matches, first_not_alive, create_room, create_on, create_answer}
use Rattle.spec.specs.Map.Apply.{Applied, register_answer, dead_answer, change_answer, decide, settle, apply_to, apply, shard_at, session_at}
use Rattle.spec.specs.Map.Calls.{reason_number}
use Rattle.spec.specs.Layout.Request.{Command, create, drop_collection, register, mark_dead, add_replica, remove_replica, promote_primary, shrink_in_sync, expand_in_sync, bench, Request}
use Rattle.spec_laws.proofs.Lists.{by-test, not_both}
use Rattle.map_tables.specs.View.{view_map}
use Rattle.map_tables.specs.declared.ShardMap.{ShardMap}
use Rattle.map_check.specs.Lent.{well_formed_lent}
use Rattle.map_apply.specs.Calls.{apply_lent}
use Rattle.calls_map.specs.Calls.{noted}

-- ---- a command that is decided is no older one

-- an outcome that the map remembers, or a refusal other than 24
abbrev pub now : Answer → Bool
now (outcome o) = noted (reason_number (outcome o))
now (refused r) = not (eqb (number_of r) 24)

abbrev pub Now : Answer → Type 0
Now a = now a ≡ true

change-now : (s : ShardInfo) (c : Change) → Now (decide_change s c)
unfolding decide_change
change-now s (add n i) = by-test Now (holds n s.replicas) (λ e. refl) (λ e. by-test Now (leb max_replicas (length s.replicas)) (λ f. refl) (λ f. refl))
change-now s (remove n) = by-test Now (is_primary n s.primary) (λ e. refl) (λ e. by-test Now (holds n s.replicas) (λ f. refl) (λ f. refl))
change-now s (promote n) = by-test Now (in_sync n s.insync) (λ e. by-test Now (eqb s.epoch max_u64) (λ f. refl) (λ f. refl)) (λ e. refl)
change-now s (shrink n) = by-test Now (is_primary n s.primary) (λ e. refl) (λ e. by-test Now (in_sync n s.insync) (λ f. refl) (λ f. refl))
change-now s (expand n) = by-test Now (holds n s.replicas) (λ e. by-test Now (in_sync n s.insync) (λ f. refl) (λ f. refl)) (λ e. refl)

shard-now : (k : Key) (e : ℕ) (c : Change) (o : Option ShardInfo) → Now (change_answer k e c o)
unfolding change_answer
shard-now k e c none = refl
shard-now k e c (some s) = by-test Now (eqb s.epoch e) (λ q. change-now s c) (λ q. refl)

create_now : (m : Map) (name : Name) (spec : Spec) (p : Placement) → Now (create_answer m name spec p)
unfolding create_answer create_on
create_now m name spec p =
    by-test Now (has_collection name m.collections) (λ q. refl)
    (λ q. by-test Now (zero_in spec) (λ q. refl) (λ q. by-test Now (matches spec p) (λ q. on (first_not_alive m.nodes p)) (λ q. refl)))
  where
    on : (o : Option ℕ) → Now (create_on m name p o)
    on none = by-test Now (create_room m name p) (λ q. refl) (λ q. refl)
    on (some n) = refl

register_now : (m : Map) (n i : ℕ) (o : Option NodeInfo) → Now (register_answer m.nodes n i o)
unfolding register_answer
register_now m n i none = by-test Now (ltb (length m.nodes) max_nodes) (λ q. refl) (λ q. refl)
register_now m n i (some x) = by-test Now (leb i x.incarnation) (λ q. refl) (λ q. refl)

dead-now : (n i : ℕ) (o : Option NodeInfo) → Now (dead_answer n i o)
unfolding dead_answer
dead-now n i none = refl
dead-now n i (some x) = by-test Now (eqb x.incarnation i) (λ q. refl) (λ q. refl)

pub decide-now : (m : Map) (c : Command) → Now (decide m c)
unfolding decide
decide-now m (create name spec p) = create_now m name spec p
decide-now m (drop_collection name) = by-test Now (has_collection name m.collections) (λ q. refl) (λ q. refl)
decide-now m (register n a i) = register_now m n i (node_at m.nodes n)
decide-now m (mark_dead n i) = dead-now n i (node_at m.nodes n)
decide-now m (add_replica k n i e) = shard-now k e (add n i) (shard_at m.shards k)
decide-now m (remove_replica k n e) = shard-now k e (remove n) (shard_at m.shards k)
decide-now m (promote_primary k n e) = shard-now k e (promote n) (shard_at m.shards k)
decide-now m (shrink_in_sync k n e) = shard-now k e (shrink n) (shard_at m.shards k)
decide-now m (expand_in_sync k n e) = shard-now k e (expand n) (shard_at m.shards k)
decide-now m (bench bs) = refl

-- ---- apply

module _ (m : Map) where
  -- what is not remembered has left the map as it was
  abbrev Keeps : Applied → Type 0
  Keeps v = noted (reason_number v.answer) ≡ false → v.map ≡ m

  settle-keeps : (r : Request) (a : Answer) → Now a → Keeps (settle m r a)
  unfolding settle
  settle-keeps r (outcome applied) e f = not_both true refl f
  settle-keeps r (outcome (rejected why)) e f = not_both (noted (reason_number (outcome (rejected why)))) e f
  settle-keeps r (refused why) e f = refl

  apply-keeps : (r : Request) → Keeps (apply m r)
  unfolding apply apply_to
  apply-keeps r = go (session_at m.sessions r.client)
    where
      done : Keeps (settle m r (decide m r.command))
      done = settle-keeps r (decide m r.command) (decide-now m r.command)

      go : (o : Option Session) → Keeps (apply_to m r o)
      go none = by-test Keeps (ltb (length m.sessions) max_clients) (λ q. done) (λ q f. refl)
      go (some s) =
          by-test Keeps (ltb r.seq s.seq) (λ q f. refl)
          (λ q. by-test Keeps (eqb r.seq s.seq) (λ w f. refl) (λ w. done))

pub unnoted_keeps : (m : ShardMap) (o : Option Request) → noted (reason_number (apply_lent m o).answer) ≡ false → (apply_lent m o).map ≡ view_map m
unnoted_keeps m none = λ f. refl
unnoted_keeps m (some r) = by-test (Keeps (view_map m)) (well_formed_lent m) (λ q. apply-keeps (view_map m) r) (λ q f. refl)
