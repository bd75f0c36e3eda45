-- A well-formed node that is shown a well-formed map stays well formed; and a shown map leaves every log as it is. Assumes nothing.
use Prim.Native.Nat.{ℕ, zero, suc, ◌+◌, ◌≤◌, ◌<◌}
use mathlib.Core.Path.{◌≡◌, refl, sym, ap, ◌∙◌, subst}
use mathlib.Core.Bool.{Bool, true, false, cond, not}
use mathlib.Core.List.{List, [], ◌∷◌, map}
use mathlib.Core.Option.{Option, none, some}
use native.Mathlib.Omega.{arith}
use lib.Dec.{eqb, leb, ltb}
use lib.ListN.{length}
use borrow.Author.Tests.{leb-true, ltb-false, le-leb}
use Rattle.spec.specs.Lists.{◌and◌, ◌or◌, every, any, find, rising, put}
use Rattle.spec.specs.Limits.{max_nodes, max_collections, max_shards, max_clients, max_entries, max_held, max_replicas, max_workers, max_time}
use Rattle.spec.specs.Keys.{Key, key_below, same_key}
use Rattle.spec.specs.Log.{last_offset, promote, empty_replica}
use Rattle.spec.specs.Map.Tables.{Map, ShardInfo}
use Rattle.spec.specs.Map.Change.{id_below, holds}
use Rattle.spec.specs.Map.Create.{shard_below, collection_below}
use Rattle.spec.specs.Map.Apply.{node_below, session_below}
use Rattle.spec.specs.Map.WellFormed.{name_fits, node_fits, collection_fits, shard_fits, session_fits, table_fits, well_formed_map}
use Rattle.spec.specs.Node.Held.{Held, Node, empty_node}
use Rattle.spec.specs.Node.Shards.{Result, held_below, row_below, of_key, of_node, on_node, held_shard, demoted, begun}
use Rattle.spec.specs.Node.Shown.{Showing, still, refreshed, is_node, new_row, with_row, with_rows, retained, is_primary, promotes, promoted_to, kept_as, show_held, show_listed, listed_as, collection_metric, show_shard, or_not, showings, held_of, overworked, too_many, take_map, dead_as, on_map, ShownAnswer}
use Rattle.spec.specs.Node.WellFormed.{ack_fits, well_formed_held, well_formed_log, log_of}
use Rattle.spec.specs.declared.Metric.{Metric}
use Rattle.spec.specs.declared.DataNodeId.{DataNodeId}
use Rattle.spec.specs.declared.Replica.{Replica}
use Rattle.spec.specs.declared.Peer.{Peer}
use Rattle.spec.specs.declared.Role.{Role}
use Rattle.spec.specs.declared.Role.TheVariants.{Backup, Primary}
use Rattle.spec_laws.proofs.Lists.{by-test, not_both, and_true, and_left, and_right, none_some, some_same}
use Rattle.spec_laws.proofs.Rising.{ByKey, put-rising, rising_tail}
use Rattle.spec_laws.proofs.Map.Orders.{same_key_lem, keys, shards_by_key}
use Rattle.spec_laws.proofs.Map.Rows.{every_tail, every_cons, every-put, every-find, find_true}
use Rattle.spec_laws.proofs.Node.Logs.{log-formed, formed-log, formed-empty, formed-promote}
use Rattle.spec_laws.proofs.Node.Formed.{FormedRows, FormedHeld, held-formed, formed-held, FormedNode, rows_by_node, held_by_key, no_rows}
use Rattle.spec_laws.proofs.Node.Kept.{rows-map}

-- ---- rows

with_row_rise : (me : ℕ) (sync : List DataNodeId) (n : DataNodeId) (l : List Peer) → rising row_below l ≡ true
    → rising row_below (with_row me sync n l) ≡ true
unfolding with_row
with_row_rise me sync n l h =
    by-test (λ (v : List Peer). rising row_below v ≡ true) (eqb n.0 me or any (of_node n.0) l) (λ q. h)
    (λ q. put-rising row_below rows_by_node (new_row n (any (is_node n.0) sync)) l h)

with_row_acks : (me : ℕ) (sync : List DataNodeId) (n : DataNodeId) (l : List Peer) → every ack_fits l ≡ true
    → every ack_fits (with_row me sync n l) ≡ true
unfolding with_row
with_row_acks me sync n l h =
    by-test (λ (v : List Peer). every ack_fits v ≡ true) (eqb n.0 me or any (of_node n.0) l) (λ q. h)
    (λ q. every-put ack_fits row_below (new_row n (any (is_node n.0) sync)) l refl h)

pub with_rows_rise : (me : ℕ) (sync : List DataNodeId) (rs : List Replica) (l : List Peer) → rising row_below l ≡ true
    → rising row_below (with_rows me sync rs l) ≡ true
unfolding with_rows
with_rows_rise me sync [] l h = h
with_rows_rise me sync (r ∷ rs) l h = with_rows_rise me sync rs (with_row me sync r.node l) (with_row_rise me sync r.node l h)

with_rows_acks : (me : ℕ) (sync : List DataNodeId) (rs : List Replica) (l : List Peer) → every ack_fits l ≡ true
    → every ack_fits (with_rows me sync rs l) ≡ true
unfolding with_rows
with_rows_acks me sync [] l h = h
with_rows_acks me sync (r ∷ rs) l h = with_rows_acks me sync rs (with_row me sync r.node l) (with_row_acks me sync r.node l h)

-- ---- one shard

-- a shard after the map: all but the number of its rows, which the call itself tests
record Shows (i : ShardInfo) (h : Held) : Type 0 where
  key : h.key ≡ i.key
  holders : length h.holders ≤ max_replicas
  log : last_offset h.replica ≤ max_entries
  rise : rising row_below h.peers ≡ true
  acks : every ack_fits h.peers ≡ true
  whole : log_of h ≡ true

-- what the map says of the shard
record Listed (i : ShardInfo) : Type 0 where
  name : name_fits i.key.collection ≡ true
  few : length i.replicas ≤ max_replicas

listed : (i : ShardInfo) → shard_fits i ≡ true → Listed i
unfolding shard_fits
listed i e =
    let a = name_fits i.key.collection in
    let b = leb (length i.replicas) max_replicas in
    let c = rising id_below i.insync in
    let d = every (λ (x : DataNodeId). holds x.0 i.replicas) i.insync in
    record {
      name = and_left a (b and c and d) e;
      few = leb-true (length i.replicas) max_replicas (and_left b (c and d) (and_right a (b and c and d) e));
    }

kept_as_lem : (me : ℕ) (i : ShardInfo) (m : Metric) (h : Held) (r : Role) → Listed i → h.key ≡ i.key → FormedHeld h → log_of h ≡ true
    → Shows i (kept_as me i m h r).held
unfolding kept_as
kept_as_lem me i m h Backup l k x w = record {
  key = k;
  holders = l.few;
  log = x.log;
  rise = x.rows.rise;
  acks = x.rows.acks;
  whole = w;
}
kept_as_lem me i m h (Primary e o) l k x w =
    let kept : FormedRows (map (retained i.replicas) h.peers) =
    rows-map (retained i.replicas) (λ p. unfold retained in refl) (λ p e. unfold retained in e) h.peers x.rows in
    record {
      key = k;
      holders = l.few;
      log = x.log;
      rise = with_rows_rise me [] i.replicas (map (retained i.replicas) h.peers) kept.rise;
      acks = with_rows_acks me [] i.replicas (map (retained i.replicas) h.peers) kept.acks;
      whole = w;
    }

promoted_to_lem : (me : ℕ) (i : ShardInfo) (m : Metric) (h : Held) → Listed i → h.key ≡ i.key → FormedHeld h → log_of h ≡ true
    → Shows i (promoted_to me i m h).held
unfolding promoted_to promote
promoted_to_lem me i m h l k x w = record {
  key = k;
  holders = l.few;
  log = x.log;
  rise = with_rows_rise me i.insync i.replicas [] no_rows.rise;
  acks = with_rows_acks me i.insync i.replicas [] no_rows.acks;
  whole = formed-log (promote h.replica i.epoch) (formed-promote h.replica i.epoch (log-formed h.replica w));
}

show_held_lem : (me : ℕ) (i : ShardInfo) (m : Metric) (h : Held) → Listed i → h.key ≡ i.key → FormedHeld h → log_of h ≡ true
    → Shows i (show_held me i m h).held
unfolding show_held
show_held_lem me i m h l k x w =
    let P : Showing → Type 0 = λ s. Shows i s.held in
    by-test P (is_primary i.primary me)
    (λ p. by-test P (promotes h i) (λ q. promoted_to_lem me i m h l k x w) (λ q. kept_as_lem me i m h h.role l k x w))
    (λ p. record { key = k; holders = l.few; log = x.log; rise = no_rows.rise; acks = no_rows.acks; whole = w })

show_listed_lem : (me : ℕ) (i : ShardInfo) (c : Option Metric) (o : Option Held) → Listed i
    → ((h : Held) → o ≡ some h → (h.key ≡ i.key) × FormedHeld h × (log_of h ≡ true))
    → (s : Showing) → show_listed me i c o ≡ some s → Shows i s.held
unfolding show_listed
show_listed_lem me i none none l f s e = none_some e
show_listed_lem me i none (some h) l f s e =
    let x = f h refl in
    subst (λ (t : Showing). Shows i t.held) (some_same e)
    (record { key = x.0; holders = l.few; log = x.1.log; rise = x.1.rows.rise; acks = x.1.rows.acks; whole = x.2 })
show_listed_lem me i (some m) none l f s e =
    subst (λ (t : Showing). Shows i t.held) (some_same e)
    (show_held_lem me i m (begun i.key m) l refl
    (record { name = l.name; holders = omega arith; log = omega arith; rows = no_rows })
    (formed-log (empty_replica 0 m) (formed-empty 0 m)))
show_listed_lem me i (some m) (some h) l f s e =
    let x = f h refl in
    subst (λ (t : Showing). Shows i t.held) (some_same e) (show_held_lem me i m h l x.0 x.1 x.2)

show_shard_lem : (n : Node) (m : Map) (i : ShardInfo) → FormedNode n → Listed i → (s : Showing) → show_shard n m i ≡ some s → Shows i s.held
unfolding show_shard
show_shard_lem n m i x l s =
    by-test (λ (v : Option Showing). v ≡ some s → Shows i s.held) (any (listed_as n.id n.incarnation) i.replicas)
    (λ q. show_listed_lem n.id i (collection_metric m i.key.collection) (held_shard n i.key) l found s)
    (λ q e. none_some e)
  where
    found : (h : Held) → held_shard n i.key ≡ some h → (h.key ≡ i.key) × FormedHeld h × (log_of h ≡ true)
    found h e =
        unfold held_shard in (
          same_key_lem h.key i.key (find_true (of_key i.key) n.held h e),
          held-formed h (every-find well_formed_held (of_key i.key) n.held h x.shards e),
          every-find log_of (of_key i.key) n.held h x.logs e,
        )

-- ---- every shard of the map

-- a rising list, as: the first stands below each of the rest
module _ {ℓ} {A : Type ℓ} (lt : A → A → Bool) (order : ByKey lt) where
  above_first : (x y : A) (ys : List A) → lt x y ≡ true → every (lt y) ys ≡ true → every (lt x) ys ≡ true
  above_first x y [] p e = unfold every in refl
  above_first x y (z ∷ zs) p e =
      let t = every_tail (lt y) z zs e in
      every_cons (lt x) z zs (order.through x y z p t.0) (above_first x y zs p t.1)

  rising-every : (x : A) (xs : List A) → rising lt (x ∷ xs) ≡ true → every (lt x) xs ≡ true
  unfolding rising
  rising-every x [] h = unfold every in refl
  rising-every x (y ∷ ys) h =
      let p = and_left (lt x y) (rising lt (y ∷ ys)) h in
      let r = and_right (lt x y) (rising lt (y ∷ ys)) h in
      every_cons (lt x) y ys p (above_first x y ys p (rising-every y ys r))

  every-rising : (x : A) (xs : List A) → every (lt x) xs ≡ true → rising lt xs ≡ true → rising lt (x ∷ xs) ≡ true
  unfolding rising
  every-rising x [] e h = refl
  every-rising x (y ∷ ys) e h = and_true (lt x y) (rising lt (y ∷ ys)) (every_tail (lt x) y ys e).0 h

abbrev held_after : Node → Map → List ShardInfo → List Held
held_after n m is = map held_of (showings n m is)

-- a fact of every list of showings: of none, and of one more that its shard of the map gives
showings_cases {κ} : (P : List ShardInfo → List Showing → Type κ) (n : Node) (m : Map)
    → P [] []
    → ((i : ShardInfo) (is : List ShardInfo) → P is (showings n m is) → P (i ∷ is) (showings n m is))
    → ((i : ShardInfo) (is : List ShardInfo) (s : Showing) → show_shard n m i ≡ some s → P is (showings n m is) → P (i ∷ is) (s ∷ showings n m is))
    → (is : List ShardInfo) → P is (showings n m is)
unfolding showings
showings_cases P n m nil skip more [] = nil
showings_cases P n m nil skip more (i ∷ is) = go (show_shard n m i) refl (showings_cases P n m nil skip more is)
  where
    go : (o : Option Showing) → show_shard n m i ≡ o → P is (showings n m is) → P (i ∷ is) (or_not o (showings n m is))
    go none e h = skip i is h
    go (some s) e h = more i is s e h

module _ (n : Node) (m : Map) (x : FormedNode n) where
  after_above : (b : Key) (is : List ShardInfo) → every shard_fits is ≡ true → every (λ i. key_below b i.key) is ≡ true
      → every (λ h. key_below b h.key) (held_after n m is) ≡ true
  after_above b =
      showings_cases
      (λ is ss. every shard_fits is ≡ true → every (λ i. key_below b i.key) is ≡ true → every (λ h. key_below b h.key) (map held_of ss) ≡ true)
      n m (λ f e. unfold every in refl)
      (λ i is h f e. h (every_tail shard_fits i is f).1 (every_tail (λ i. key_below b i.key) i is e).1)
      (λ i is s q h f e.
      (let t = every_tail (λ i. key_below b i.key) i is e in
      let g = every_tail shard_fits i is f in
      every_cons (λ h. key_below b h.key) s.held (map held_of (showings n m is))
      (ap (key_below b) (show_shard_lem n m i x (listed i g.0) s q).key ∙ t.0) (h g.1 t.1)))

  after-rise : (is : List ShardInfo) → every shard_fits is ≡ true → rising shard_below is ≡ true → rising held_below (held_after n m is) ≡ true
  after-rise =
      showings_cases (λ is ss. every shard_fits is ≡ true → rising shard_below is ≡ true → rising held_below (map held_of ss) ≡ true)
      n m (λ f e. unfold rising in refl)
      (λ i is h f e. h (every_tail shard_fits i is f).1 (rising_tail shard_below shards_by_key i is e))
      (λ i is s q h f e.
      (let g = every_tail shard_fits i is f in
      let k : s.held.key ≡ i.key = (show_shard_lem n m i x (listed i g.0) s q).key in
      every-rising held_below held_by_key s.held (map held_of (showings n m is))
      (subst (λ (b : Key). every (λ (h : Held). key_below b h.key) (held_after n m is) ≡ true) (sym k)
      (after_above i.key is g.1 (rising-every shard_below shards_by_key i is e)))
      (h g.1 (rising_tail shard_below shards_by_key i is e))))

  after-held : (is : List ShardInfo) → every shard_fits is ≡ true → any overworked (showings n m is) ≡ false
      → every well_formed_held (held_after n m is) ≡ true
  after-held =
      showings_cases (λ is ss. every shard_fits is ≡ true → any overworked ss ≡ false → every well_formed_held (map held_of ss) ≡ true)
      n m (λ f e. unfold every in refl)
      (λ i is h f e. h (every_tail shard_fits i is f).1 e)
      (λ i is s q h f e.
      (let g = every_tail shard_fits i is f in
      let y = show_shard_lem n m i x (listed i g.0) s q in
      let o = any_split overworked s (showings n m is) e in
      every_cons well_formed_held s.held (map held_of (showings n m is))
      (formed-held s.held (record {
        name = subst (λ (k : Key). name_fits k.collection ≡ true) (sym y.key) (listed i g.0).name;
        holders = y.holders;
        log = y.log;
        rows = record { most = ltb-false max_workers (length s.held.peers) o.0; rise = y.rise; acks = y.acks };
      }))
      (h g.1 o.1)))
    where
      any_split : {A : Type 0} (p : A → Bool) (y : A) (ys : List A) → any p (y ∷ ys) ≡ false → (p y ≡ false) × (any p ys ≡ false)
      any_split p y ys e = unfold any in (go (p y) (any p ys) e)
        where
          go : (a b : Bool) → cond a true b ≡ false → (a ≡ false) × (b ≡ false)
          go true b e = not_both true refl e
          go false b e = (refl, e)

  after-logs : (is : List ShardInfo) → every shard_fits is ≡ true → every log_of (held_after n m is) ≡ true
  after-logs =
      showings_cases (λ is ss. every shard_fits is ≡ true → every log_of (map held_of ss) ≡ true)
      n m (λ f. unfold every in refl)
      (λ i is h f. h (every_tail shard_fits i is f).1)
      (λ i is s q h f.
      (let g = every_tail shard_fits i is f in
      every_cons log_of s.held (map held_of (showings n m is)) (show_shard_lem n m i x (listed i g.0) s q).whole (h g.1)))

-- ---- the whole map

map-shards : (m : Map) → well_formed_map m ≡ true → (rising shard_below m.shards ≡ true) × (every shard_fits m.shards ≡ true)
unfolding well_formed_map table_fits
map-shards m e =
    let a = leb (length m.nodes) max_nodes and rising node_below m.nodes and every node_fits m.nodes in
    let b = leb (length m.collections) max_collections and rising collection_below m.collections and every collection_fits m.collections in
    let c = leb (length m.shards) max_shards in
    let d = rising shard_below m.shards and every shard_fits m.shards in
    let f = leb (length m.sessions) max_clients and rising session_below m.sessions and every session_fits m.sessions in
    let g = and_right c d (and_left (c and d) f (and_right b ((c and d) and f) (and_right a (b and (c and d) and f) e))) in
    (and_left (rising shard_below m.shards) (every shard_fits m.shards) g, and_right (rising shard_below m.shards) (every shard_fits m.shards) g)

length-held : (l : List Showing) → length (map held_of l) ≡ length l
length-held [] = refl
length-held (s ∷ ss) = ap suc (length-held ss)

pub take_map_kept : (n : Node) (m : Map) → well_formed_map m ≡ true → FormedNode n → FormedNode (take_map n m).after
unfolding take_map
take_map_kept n m w x =
    by-test (λ (v : Result ShownAnswer Node). FormedNode v.after) (too_many (showings n m m.shards)) (λ q. x) (λ q. taken q)
  where
    neither : (a b : Bool) → a or b ≡ false → (a ≡ false) × (b ≡ false)
    neither true b e = not_both true refl (unfold ◌or◌ in e)
    neither false b e = (refl, unfold ◌or◌ in e)

    taken : too_many (showings n m m.shards) ≡ false
        → FormedNode (record { id = n.id; incarnation = n.incarnation; expiry = n.expiry; version = m.version; held = held_after n m m.shards })
    taken q =
        let t = neither (ltb max_held (length (showings n m m.shards))) (any overworked (showings n m m.shards)) q in
        let g = map-shards m w in
        record {
          most = (let a = ltb-false max_held (length (showings n m m.shards)) t.0 in let b = length-held (showings n m m.shards) in omega arith);
          rise = after-rise n m x m.shards g.1 g.0;
          shards = after-held n m x m.shards g.1 t.1;
          logs = after-logs n m x m.shards g.1;
        }

empty-formed : (id incarnation : ℕ) → FormedNode (empty_node id incarnation)
unfolding rising every
empty-formed id incarnation = record { most = omega arith; rise = refl; shards = refl; logs = refl }

pub map-kept : (n : Node) (fresh : ℕ) (m : Map) → well_formed_map m ≡ true → FormedNode n → FormedNode (on_map n fresh m).after
unfolding on_map
map-kept n fresh m w x =
    let P : Result ShownAnswer Node → Type 0 = λ v. FormedNode v.after in
    by-test P (ltb m.version n.version) (λ p. x)
    (λ p. by-test P (any (dead_as n) m.nodes) (λ q. empty-formed n.id fresh) (λ q. take_map_kept n m w x))
