-- With 108 bytes lent, apply in words is apply: no text that a machine can be asked for is longer. Assumes nothing.
use Prim.Native.Nat.{ℕ, ◌≤◌}
use mathlib.Core.Path.{◌≡◌, refl, subst}
use mathlib.Core.Bool.{Bool, true, not}
use mathlib.Core.List.{List, [], ◌∷◌, ◌++◌, flatten}
use mathlib.Core.Option.{Option, none, some}
use native.Mathlib.Omega.{arith}
use lib.ListN.{length}
use lib.Dec.{eqb, leb, ltb}
use borrow.Author.Tests.{leb-true}
use Rattle.spec.specs.Keys.{Name, Key}
use Rattle.spec.specs.Limits.{max_name, max_u64, max_nodes, max_replicas, max_clients}
use Rattle.spec.specs.Lists.{find}
use Rattle.spec.specs.Refusals.{
  Rejection,
  older,
  exists,
  zero_spec,
  placement_mismatch,
  not_alive,
  no_collection,
  known_incarnation,
  not_at_incarnation,
  no_shard,
  other_epoch,
  already_held,
  removes_primary,
  not_held,
  not_in_sync,
  shrinks_primary,
  already_in_sync,
}
use Rattle.spec.specs.Map.Tables.{NodeInfo, Spec, ShardInfo, Outcome, applied, rejected, Session, Map, Answer, outcome, refused}
use Rattle.spec.specs.Map.Change.{Change, add, remove, promote, shrink, expand, decide_change, holds, in_sync, is_primary}
use Rattle.spec.specs.Map.Create.{Placement, is_alive, node_at, is_node, has_collection, zero_in, matches, first_not_alive, create_room, create_on, create_answer}
use Rattle.spec.specs.Map.Apply.{Applied, register_answer, dead_answer, change_answer, decide, settle, apply_to, apply, shard_at, session_at, is_shard, is_client}
use Rattle.spec.specs.Map.Calls.{apply_call}
use Rattle.spec.specs.Map.WellFormed.{rejection_fits, outcome_fits, session_fits, well_formed_map}
use Rattle.spec.specs.Layout.Format.{All, Bytes}
use Rattle.spec.specs.Layout.Writable.{U64, GoodName, GoodKey, GoodList, GoodCommand, GoodRequest}
use Rattle.spec.specs.Layout.Request.{Command, create, drop_collection, register, mark_dead, add_replica, remove_replica, promote_primary, shrink_in_sync, expand_in_sync, bench, Request, decode_request}
use Rattle.spec_laws.proofs.Lists.{by-test, none_some, some_same}
use Rattle.spec_laws.proofs.Map.Rows.{every-find}
use Rattle.spec_laws.proofs.Map.WellFormed.{map-parts}
use Rattle.spec_laws.proofs.Wire.Requests.{request_forth}
use Rattle.spec_words.specs.Words.{text_of}
use Rattle.spec_words.specs.Calls.{said, apply_in_words}
use Rattle.spec_words.specs.Small.{Named, OutcomeNumbers, SmallAnswer, MapNumbers}
use Rattle.spec_words.proofs.Lengths.{text-length}
use Rattle.spec_words.proofs.Calls.{roomy}

-- ---- what is found in a table, or in a placement, is one of its own

module _ {A : Type 0} (P : A → Type 0) where
  all-find : (p : A → Bool) (l : List A) (x : A) → All P l → find p l ≡ some x → P x
  unfolding find
  all-find p [] x h = λ e. none_some e
  all-find p (y ∷ ys) x h =
      by-test (λ (o : Option A). o ≡ some x → P x) (p y) (λ _ e. subst P (some_same e) h.0) (λ _ e. all-find p ys x h.1 e)

  all_append : (a b : List A) → All P a → All P b → All P (a ++ b)
  all_append [] b f g = g
  all_append (x ∷ a) b f g = (f.0, all_append a b f.1 g)

listed : (p : Placement) → All GoodList p → All U64 (flatten p)
unfolding flatten
listed [] h = tt
listed (l ∷ ls) h = all_append U64 l (flatten ls) h.0.1 (listed ls h.1)

-- ---- what a command is answered

-- the node that a change names
abbrev node_in : Change → ℕ
node_in (add n i) = n
node_in (remove n) = n
node_in (promote n) = n
node_in (shrink n) = n
node_in (expand n) = n

abbrev Small : Answer → Type 0
Small a = SmallAnswer a

change_small : (s : ShardInfo) (c : Change) → U64 (node_in c) → Small (decide_change s c)
unfolding decide_change
change_small s (add n i) h = by-test Small (holds n s.replicas) (λ _. (tt, h)) (λ _. by-test Small (leb max_replicas (length s.replicas)) (λ _. tt) (λ _. tt))
change_small s (remove n) h = by-test Small (is_primary n s.primary) (λ _. (tt, tt)) (λ _. by-test Small (holds n s.replicas) (λ _. tt) (λ _. (tt, h)))
change_small s (promote n) h = by-test Small (in_sync n s.insync) (λ _. by-test Small (eqb s.epoch max_u64) (λ _. tt) (λ _. tt)) (λ _. (tt, h))
change_small s (shrink n) h = by-test Small (is_primary n s.primary) (λ _. (tt, tt)) (λ _. by-test Small (in_sync n s.insync) (λ _. tt) (λ _. (tt, h)))
change_small s (expand n) h = by-test Small (holds n s.replicas) (λ _. by-test Small (in_sync n s.insync) (λ _. (tt, h)) (λ _. tt)) (λ _. (tt, h))

module _ (m : Map) (numbers : MapNumbers m) where
  shard_small : (k : Key) (e : ℕ) (c : Change) → GoodKey k → U64 e → U64 (node_in c) → Small (change_answer k e c (shard_at m.shards k))
  unfolding shard_at change_answer
  shard_small k e c good h g = go (find (is_shard k) m.shards) refl
    where
      go : (o : Option ShardInfo) → find (is_shard k) m.shards ≡ o → Small (change_answer k e c o)
      go none q = (good.0.0, good.1)
      go (some s) q =
          let own = all-find (λ (x : ShardInfo). U64 x.epoch) (is_shard k) m.shards s numbers.shards q in
          by-test Small (eqb s.epoch e) (λ _. change_small s c g) (λ _. (good.0.0, (good.1, own, h)))

  create_small : (name : Name) (spec : Spec) (p : Placement) → GoodName name → All GoodList p → Small (create_answer m name spec p)
  unfolding create_answer create_on first_not_alive
  create_small name spec p good lists =
      by-test Small (has_collection name m.collections) (λ _. (good.0, tt))
      (λ _. by-test Small (zero_in spec) (λ _. (tt, tt)) (λ _. by-test Small (matches spec p) (λ _. on (first_not_alive m.nodes p) refl) (λ _. (tt, tt))))
    where
      on : (o : Option ℕ) → first_not_alive m.nodes p ≡ o → Small (create_on m name p o)
      on none q = by-test Small (create_room m name p) (λ _. tt) (λ _. tt)
      on (some n) q = (tt, all-find U64 (λ n. not (is_alive (node_at m.nodes n))) (flatten p) n (listed p lists) q)

  register_small : (n i : ℕ) → U64 n → Small (register_answer m.nodes n i (node_at m.nodes n))
  unfolding register_answer node_at
  register_small n i h = go (find (is_node n) m.nodes) refl
    where
      go : (o : Option NodeInfo) → find (is_node n) m.nodes ≡ o → Small (register_answer m.nodes n i o)
      go none q = by-test Small (ltb (length m.nodes) max_nodes) (λ _. tt) (λ _. tt)
      go (some x) q =
          let known = all-find (λ (y : NodeInfo). U64 y.incarnation) (is_node n) m.nodes x numbers.nodes q in
          by-test Small (leb i x.incarnation) (λ _. (tt, (h, known))) (λ _. tt)

  dead_small : (n i : ℕ) → U64 n → U64 i → (o : Option NodeInfo) → Small (dead_answer n i o)
  unfolding dead_answer
  dead_small n i h g none = (tt, (h, g))
  dead_small n i h g (some x) = by-test Small (eqb x.incarnation i) (λ _. tt) (λ _. (tt, (h, g)))

  decide_small : (c : Command) → GoodCommand c → Small (decide m c)
  unfolding decide
  decide_small (create name spec p) g = create_small name spec p g.0 g.2.1
  decide_small (drop_collection name) g = by-test Small (has_collection name m.collections) (λ _. tt) (λ _. (g.0, tt))
  decide_small (register n a i) g = register_small n i g.0
  decide_small (mark_dead n i) g = dead_small n i g.0 g.1 (node_at m.nodes n)
  decide_small (add_replica k n i e) g = shard_small k e (add n i) g.0 g.3 g.1
  decide_small (remove_replica k n e) g = shard_small k e (remove n) g.0 g.2 g.1
  decide_small (promote_primary k n e) g = shard_small k e (promote n) g.0 g.2 g.1
  decide_small (shrink_in_sync k n e) g = shard_small k e (shrink n) g.0 g.2 g.1
  decide_small (expand_in_sync k n e) g = shard_small k e (expand n) g.0 g.2 g.1
  decide_small (bench bs) g = tt

  settle_small : (r : Request) (a : Answer) → Small a → Small (settle m r a).answer
  unfolding settle
  settle_small r (outcome applied) h = tt
  settle_small r (outcome (rejected why)) h = h
  settle_small r (refused why) h = tt

-- ---- what is remembered

named : (r : Rejection) → rejection_fits r ≡ true → Named r
named older h = tt
named (exists n) h = leb-true (length n) max_name h
named zero_spec h = tt
named placement_mismatch h = tt
named (not_alive n) h = tt
named (no_collection n) h = leb-true (length n) max_name h
named (known_incarnation n i) h = tt
named (not_at_incarnation n i) h = tt
named (no_shard k) h = leb-true (length k.collection) max_name h
named (other_epoch k o g) h = leb-true (length k.collection) max_name h
named (already_held n) h = tt
named removes_primary h = tt
named (not_held n) h = tt
named (not_in_sync n) h = tt
named shrinks_primary h = tt
named (already_in_sync n) h = tt

remembered_small : (o : Outcome) → outcome_fits o ≡ true → OutcomeNumbers o → Small (outcome o)
remembered_small applied f h = tt
remembered_small (rejected r) f h = (named r f, h)

-- ---- the call

module _ (m : Map) (numbers : MapNumbers m) (r : Request) (good : GoodRequest r) where
  apply_small : well_formed_map m ≡ true → Small (apply m r).answer
  unfolding apply apply_to session_at
  apply_small w = go (find (is_client r.client) m.sessions) refl
    where
      done : Small (settle m r (decide m r.command)).answer
      done = settle_small m numbers r (decide m r.command) (decide_small m numbers r.command good.3)

      go : (o : Option Session) → find (is_client r.client) m.sessions ≡ o → Small (apply_to m r o).answer
      go none q = by-test (λ (a : Applied). Small a.answer) (ltb (length m.sessions) max_clients) (λ _. done) (λ _. tt)
      go (some s) q =
          let fits = every-find session_fits (is_client r.client) m.sessions s (map-parts m w).3.2 q in
          let held = all-find (λ (x : Session). OutcomeNumbers x.outcome) (is_client r.client) m.sessions s numbers.sessions q in
          by-test (λ (a : Applied). Small a.answer) (ltb r.seq s.seq) (λ _. (tt, tt))
          (λ _. by-test (λ (a : Applied). Small a.answer) (eqb r.seq s.seq) (λ _. remembered_small s.outcome fits held) (λ _. done))

  pub call_small : Small (apply_call m r).answer
  unfolding apply_call
  call_small = by-test (λ (a : Applied). Small a.answer) (well_formed_map m) apply_small (λ _. tt)

  pub roomy_is_apply : (room : ℕ) → 108 ≤ room → apply_in_words m r room ≡ record { answer = said (apply_call m r).answer; map = (apply_call m r).map; text = text_of (apply_call m r).answer }
  unfolding apply_in_words
  roomy_is_apply room h = roomy m (apply_call m r) room (omega (arith, text-length (apply_call m r).answer call_small))

-- of a request as it comes, in bytes
pub roomy_of_bytes : (m : Map) → MapNumbers m → (bytes : List ℕ) → Bytes bytes → (r : Request) → decode_request bytes ≡ some r
    → (room : ℕ) → 108 ≤ room → apply_in_words m r room ≡ record { answer = said (apply_call m r).answer; map = (apply_call m r).map; text = text_of (apply_call m r).answer }
roomy_of_bytes m numbers bytes b r e = roomy_is_apply m numbers r (request_forth bytes b r e).0
