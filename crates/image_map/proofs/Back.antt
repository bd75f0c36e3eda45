-- A map that was written is read back, whatever the image held before: every code is listed, the tables that the bytes are read as are those
-- of the map in its one form, and they are read as the map. Assumes nothing.
use Prim.Native.Nat.{ℕ, ◌+◌, ◌^◌, ◌≤◌, ◌<◌}
use mathlib.Core.Path.{◌≡◌, refl, sym, ap, ◌∙◌}
use mathlib.Core.Bool.{true}
use mathlib.Core.List.{List, ◌++◌, map}
use lib.ListN.{length, drop, length-map}
use lib.Seq.{sets, length-sets}
use native.Mathlib.Omega.{arith}
use Rattle.spec.specs.Layout.Format.{number_at, concat_map}
use Rattle.spec.specs.Map.Tables as tables
use Rattle.spec_laws.proofs.Wire.Data.{metric_of_lem, metric_below}
use Rattle.spec_laws.proofs.Wire.Tests.{and_intro}
use Rattle.map_tables.specs.View.{view_map}
use Rattle.map_tables.specs.declared.NodeRow.{NodeRow}
use Rattle.map_tables.specs.declared.CollectionRow.{CollectionRow}
use Rattle.map_tables.specs.declared.ShardRow.{ShardRow}
use Rattle.map_tables.specs.declared.SessionRow.{SessionRow}
use Rattle.map_tables.specs.declared.Nodes.{Nodes}
use Rattle.map_tables.specs.declared.Collections.{Collections}
use Rattle.map_tables.specs.declared.Shards.{Shards}
use Rattle.map_tables.specs.declared.Sessions.{Sessions}
use Rattle.map_tables.specs.declared.ShardMap.{ShardMap}
use Rattle.image_parts.specs.Shape.{Shape, Value, ◌▸◌, u64, Good, value}
use Rattle.image_parts.proofs.Back.{length-encode, value-encode, length-rows, Holds, holds-stored, holds_kept}
use Rattle.image_parts.proofs.CodeLaws.{flag_back, flag_small, primary-back, primary_small, outcome-back, outcome_small, replicas-back, ids-back}
use Rattle.image_map_form.specs.Canon.{image_node, image_collection, image_shard, image_session}
use Rattle.image_map_row.specs.Rows.{node_f, node_of, node_value, node_at, node_bytes, collection_f, collection_of, collection_value, collection_at, collection_bytes, shard_f, shard_row_of, shard_value, shard_at, shard_bytes, session_f, session_of, session_value, session_at, session_bytes}
use Rattle.image_map.specs.Image.{no_node, no_collection, no_shard, no_session, codes_listed, map_lent, map_at, head_image, map_stored, image_map, MapBecomes}
use Rattle.image_map.proofs.Canon.{view-map}
use Rattle.image_map.proofs.Tables.{Few, table-held, table_listed}
use Rattle.image_map.proofs.Image.{lent-whole}

-- ---- rows: the numbers and arrays of a row are those of its types

abbrev pub NodeFits : NodeRow → Type 0
NodeFits r = Good node_f (node_value r)

abbrev pub CollectionFits : CollectionRow → Type 0
CollectionFits r = Good collection_f (collection_value r)

abbrev pub ShardFits : ShardRow → Type 0
ShardFits r = Good shard_f (shard_value r)

abbrev pub SessionFits : SessionRow → Type 0
SessionFits r = Good session_f (session_value r)

module _ (s : List ℕ) where
  node-value : (r : NodeRow) (at : ℕ) (t : List ℕ) → NodeFits r → drop at s ≡ node_bytes r ++ t → value node_f s at ≡ node_value r
  unfolding node_bytes
  node-value r at t g e = value-encode node_f (node_value r) s at t g e

  node-back : (r : NodeRow) (at : ℕ) (t : List ℕ) → NodeFits r → drop at s ≡ node_bytes r ++ t → node_at s at ≡ r
  unfolding node_at
  node-back r at t g e = ap node_of (node-value r at t g e) ∙ (rw (flag_back r.alive))

  node-code : (r : NodeRow) (at : ℕ) (t : List ℕ) → NodeFits r → drop at s ≡ node_bytes r ++ t → number_at 4 s (at + 16) < 2
  node-code r at t g e =
      let c : number_at 4 s (at + 16) ≡ (node_value r).0.0.1 = ap (λ (v : Value node_f). v.0.0.1) (node-value r at t g e) in
      omega (arith, flag_small r.alive)

  collection-value : (r : CollectionRow) (at : ℕ) (t : List ℕ) → CollectionFits r → drop at s ≡ collection_bytes r ++ t
      → value collection_f s at ≡ collection_value r
  unfolding collection_bytes
  collection-value r at t g e = value-encode collection_f (collection_value r) s at t g e

  collection-back : (r : CollectionRow) (at : ℕ) (t : List ℕ) → CollectionFits r → drop at s ≡ collection_bytes r ++ t → collection_at s at ≡ r
  unfolding collection_at
  collection-back r at t g e = ap collection_of (collection-value r at t g e) ∙ (rw (metric_of_lem r.spec.metric))

  collection-code : (r : CollectionRow) (at : ℕ) (t : List ℕ) → CollectionFits r → drop at s ≡ collection_bytes r ++ t → number_at 4 s (at + 44) < 2
  collection-code r at t g e =
      let c : number_at 4 s (at + 44) ≡ (collection_value r).0.0.1 = ap (λ (v : Value collection_f). v.0.0.1) (collection-value r at t g e) in
      omega (arith, metric_below r.spec.metric)

  shard-value : (r : ShardRow) (at : ℕ) (t : List ℕ) → ShardFits r → drop at s ≡ shard_bytes r ++ t → value shard_f s at ≡ shard_value r
  unfolding shard_bytes
  shard-value r at t g e = value-encode shard_f (shard_value r) s at t g e

  shard-back : (r : ShardRow) (at : ℕ) (t : List ℕ) → ShardFits r → drop at s ≡ shard_bytes r ++ t → shard_at s at ≡ r
  unfolding shard_at
  shard-back r at t g e =
      ap shard_row_of (shard-value r at t g e) ∙ (rw (primary-back r.primary, replicas-back r.replicas.items, ids-back r.insync.items))

  shard-code : (r : ShardRow) (at : ℕ) (t : List ℕ) → ShardFits r → drop at s ≡ shard_bytes r ++ t → number_at 4 s (at + 44) < 2
  shard-code r at t g e =
      let c : number_at 4 s (at + 44) ≡ (shard_value r).0.0.0.0.0.0.1 =
      ap (λ (v : Value shard_f). v.0.0.0.0.0.0.1) (shard-value r at t g e) in
      omega (arith, primary_small r.primary)

  session-value : (r : SessionRow) (at : ℕ) (t : List ℕ) → SessionFits r → drop at s ≡ session_bytes r ++ t → value session_f s at ≡ session_value r
  unfolding session_bytes
  session-value r at t g e = value-encode session_f (session_value r) s at t g e

  session-back : (r : SessionRow) (at : ℕ) (t : List ℕ) → SessionFits r → drop at s ≡ session_bytes r ++ t → session_at s at ≡ r
  unfolding session_at
  session-back r at t g e = ap session_of (session-value r at t g e) ∙ (rw (outcome-back r.outcome))

  session-code : (r : SessionRow) (at : ℕ) (t : List ℕ) → SessionFits r → drop at s ≡ session_bytes r ++ t → number_at 4 s (at + 60) < 17
  session-code r at t g e =
      let c : number_at 4 s (at + 60) ≡ (session_value r).0.0.1 = ap (λ (v : Value session_f). v.0.0.1) (session-value r at t g e) in
      omega (arith, outcome_small r.outcome)

node_long : (r : NodeRow) → NodeFits r → length (node_bytes r) ≡ 96
unfolding node_bytes
node_long r g = length-encode node_f (node_value r) g

collection_long : (r : CollectionRow) → CollectionFits r → length (collection_bytes r) ≡ 56
unfolding collection_bytes
collection_long r g = length-encode collection_f (collection_value r) g

shard_long : (r : ShardRow) → ShardFits r → length (shard_bytes r) ≡ 272
unfolding shard_bytes
shard_long r g = length-encode shard_f (shard_value r) g

session_long : (r : SessionRow) → SessionFits r → length (session_bytes r) ≡ 80
unfolding session_bytes
session_long r g = length-encode session_f (session_value r) g

-- ---- the whole map

-- tables within their places; numbers and arrays of the rows as the types of the code have them
pub record Fits (x : tables.Map) : Type 0 where
  pub version : x.version < 256 ^ 8
  pub nodes : Few NodeFits 32 (map image_node x.nodes)
  pub collections : Few CollectionFits 16 (map image_collection x.collections)
  pub shards : Few ShardFits 64 (map image_shard x.shards)
  pub sessions : Few SessionFits 64 (map image_session x.sessions)

record Placed (w : List ℕ) (x : tables.Map) : Type 0 where
  head : Holds w 0 (head_image x)
  nodes : Holds w 40 (concat_map node_bytes (map image_node x.nodes))
  collections : Holds w 3112 (concat_map collection_bytes (map image_collection x.collections))
  shards : Holds w 4008 (concat_map shard_bytes (map image_shard x.shards))
  sessions : Holds w 21416 (concat_map session_bytes (map image_session x.sessions))

abbrev head_f : Shape
head_f = u64 ▸ u64 ▸ u64 ▸ u64 ▸ u64

abbrev map_of : ℕ → Nodes → Collections → Shards → Sessions → ShardMap
map_of v a b c d = record { version = v; nodes = a; collections = b; shards = c; sessions = d }

same_map : {v w : ℕ} {a e : Nodes} {b f : Collections} {c g : Shards} {d h : Sessions} → v ≡ w → a ≡ e → b ≡ f → c ≡ g → d ≡ h
    → map_of v a b c d ≡ map_of w e f g h
same_map p q r s t = rw (p, q, r, s, t)

same_nodes : {a b : List NodeRow} {m n : ℕ} → a ≡ b → m ≡ n → ◌≡◌ {A = Nodes} (record { items = a; count = m }) (record { items = b; count = n })
same_nodes p q = rw (p, q)

same-collections : {a b : List CollectionRow} {m n : ℕ} → a ≡ b → m ≡ n → ◌≡◌ {A = Collections} (record { items = a; count = m }) (record { items = b; count = n })
same-collections p q = rw (p, q)

same-shards : {a b : List ShardRow} {m n : ℕ} → a ≡ b → m ≡ n → ◌≡◌ {A = Shards} (record { items = a; count = m }) (record { items = b; count = n })
same-shards p q = rw (p, q)

same-sessions : {a b : List SessionRow} {m n : ℕ} → a ≡ b → m ≡ n → ◌≡◌ {A = Sessions} (record { items = a; count = m }) (record { items = b; count = n })
same-sessions p q = rw (p, q)

module _ (s : List ℕ) (x : tables.Map) (room : 26536 ≤ length s) (fits : Fits x) where
  placed : Placed (map_stored s x) x
  unfolding map_stored
  placed =
      let nn = length-rows NodeFits node_bytes 96 node_long (map image_node x.nodes) fits.nodes.rows in
      let nc = length-rows CollectionFits collection_bytes 56 collection_long (map image_collection x.collections) fits.collections.rows in
      let ns = length-rows ShardFits shard_bytes 272 shard_long (map image_shard x.shards) fits.shards.rows in
      let ne = length-rows SessionFits session_bytes 80 session_long (map image_session x.sessions) fits.sessions.rows in
      let cn = fits.nodes.count in
      let cc₁ = fits.collections.count in
      let cs = fits.shards.count in
      let ce = fits.sessions.count in
      let H = head_image x in
      let N = concat_map node_bytes (map image_node x.nodes) in
      let C = concat_map collection_bytes (map image_collection x.collections) in
      let S = concat_map shard_bytes (map image_shard x.shards) in
      let E = concat_map session_bytes (map image_session x.sessions) in
      let w₀ = sets s 0 H in
      let w₁ = sets w₀ 40 N in
      let w₂ = sets w₁ 3112 C in
      let w₃ = sets w₂ 4008 S in
      let l₀ : length w₀ ≡ length s = length-sets s 0 H in
      let l₁ : length w₁ ≡ length w₀ = length-sets w₀ 40 N in
      let l₂ : length w₂ ≡ length w₁ = length-sets w₁ 3112 C in
      let l₃ : length w₃ ≡ length w₂ = length-sets w₂ 4008 S in
      let lh : length H ≡ 40 = refl in
      record {
        head =
            holds_kept w₃ 0 21416 H E (holds_kept w₂ 0 4008 H S (holds_kept w₁ 0 3112 H C (holds_kept w₀ 0 40 H N (holds-stored s 0 H (omega arith)) (omega arith)) (omega arith)) (omega arith)) (omega arith);
        nodes =
            holds_kept w₃ 40 21416 N E (holds_kept w₂ 40 4008 N S (holds_kept w₁ 40 3112 N C (holds-stored w₀ 40 N (omega arith)) (omega arith)) (omega arith)) (omega arith);
        collections = holds_kept w₃ 3112 21416 C E (holds_kept w₂ 3112 4008 C S (holds-stored w₁ 3112 C (omega arith)) (omega arith)) (omega arith);
        shards = holds_kept w₃ 4008 21416 S E (holds-stored w₂ 4008 S (omega arith)) (omega arith);
        sessions = holds-stored w₃ 21416 E (omega arith);
      }

  head-back : value head_f (map_stored s x) 0 ≡ ((((x.version, length x.nodes), length x.collections), length x.shards), length x.sessions)
  head-back =
      let mn = length-map x.nodes image_node in
      let mc = length-map x.collections image_collection in
      let ms = length-map x.shards image_shard in
      let me = length-map x.sessions image_session in
      let cn = fits.nodes.count in
      let cc₁ = fits.collections.count in
      let cs = fits.shards.count in
      let ce = fits.sessions.count in
      value-encode head_f ((((x.version, length x.nodes), length x.collections), length x.shards), length x.sessions) (map_stored s x) 0 placed.head.tail
      ((((fits.version, omega arith), omega arith), omega arith), omega arith)
      placed.head.here

  nodes-counted : number_at 8 (map_stored s x) 8 ≡ length x.nodes
  nodes-counted = ap (λ (v : Value head_f). v.0.0.0.1) head-back

  collections-counted : number_at 8 (map_stored s x) 16 ≡ length x.collections
  collections-counted = ap (λ (v : Value head_f). v.0.0.1) head-back

  shards-counted : number_at 8 (map_stored s x) 24 ≡ length x.shards
  shards-counted = ap (λ (v : Value head_f). v.0.1) head-back

  sessions-counted : number_at 8 (map_stored s x) 32 ≡ length x.sessions
  sessions-counted = ap (λ (v : Value head_f). v.1) head-back

  -- what was written lends a map
  codes_listed_lem : codes_listed (map_stored s x) ≡ true
  unfolding codes_listed
  codes_listed_lem =
      let w = map_stored s x in
      and_intro
      (table_listed NodeFits node_bytes 96 node_long 32 (map image_node x.nodes) fits.nodes w 40 2 16 (node-code w) placed.nodes (number_at 8 w 8) (nodes-counted ∙ sym (length-map x.nodes image_node)))
      (and_intro
      (table_listed CollectionFits collection_bytes 56 collection_long 16 (map image_collection x.collections) fits.collections w 3112 2 44 (collection-code w) placed.collections (number_at 8 w 16) (collections-counted ∙ sym (length-map x.collections image_collection)))
      (and_intro
      (table_listed ShardFits shard_bytes 272 shard_long 64 (map image_shard x.shards) fits.shards w 4008 2 44 (shard-code w) placed.shards (number_at 8 w 24) (shards-counted ∙ sym (length-map x.shards image_shard)))
      (table_listed SessionFits session_bytes 80 session_long 64 (map image_session x.sessions) fits.sessions w 21416 17 60 (session-code w) placed.sessions (number_at 8 w 32) (sessions-counted ∙ sym (length-map x.sessions image_session)))))

  -- its tables are those of the map in its one form
  map_back : map_at (map_stored s x) ≡ image_map x
  unfolding map_at
  map_back =
      let w = map_stored s x in
      same_map
      (ap (λ (v : Value head_f). v.0.0.0.0) head-back)
      (same_nodes (table-held NodeFits node_bytes 96 node_long 32 (map image_node x.nodes) fits.nodes w 40 (node_at w) no_node (node-back w) placed.nodes (number_at 8 w 8) (nodes-counted ∙ sym (length-map x.nodes image_node))) nodes-counted)
      (same-collections (table-held CollectionFits collection_bytes 56 collection_long 16 (map image_collection x.collections) fits.collections w 3112 (collection_at w) no_collection (collection-back w) placed.collections (number_at 8 w 16) (collections-counted ∙ sym (length-map x.collections image_collection))) collections-counted)
      (same-shards (table-held ShardFits shard_bytes 272 shard_long 64 (map image_shard x.shards) fits.shards w 4008 (shard_at w) no_shard (shard-back w) placed.shards (number_at 8 w 24) (shards-counted ∙ sym (length-map x.shards image_shard))) shards-counted)
      (same-sessions (table-held SessionFits session_bytes 80 session_long 64 (map image_session x.sessions) fits.sessions w 21416 (session_at w) no_session (session-back w) placed.sessions (number_at 8 w 32) (sessions-counted ∙ sym (length-map x.sessions image_session))) sessions-counted)

  stored_long : 26536 ≤ length (map_stored s x)
  unfolding map_stored
  stored_long = simp length-sets (omega arith)

  -- so the bytes that hold the image of a map that fits become it
  pub becomes : (t : List ℕ) → t ≡ map_stored s x → MapBecomes s t x
  becomes t e =
      let held : map_at t ≡ image_map x = ap map_at e ∙ map_back in
      record {
        bytes = e;
        lent = ap map_lent e ∙ lent-whole (map_stored s x) stored_long codes_listed_lem;
        held = held;
        read = ap view_map held ∙ view-map x;
      }
