-- What a map's bytes are read as; and that its tables, written back one after another, are its image. Assumes nothing.
use Prim.Native.Nat.{ℕ, ◌+◌, ◌*◌, ◌^◌, ◌≤◌, ◌<◌}
use mathlib.Core.Path.{◌≡◌, refl, sym, ap, subst, ◌∙◌}
use mathlib.Core.List.{List, ◌++◌, map}
use lib.ListN.{length, take, drop, length-map}
use lib.Seq.{sets, sets-eq}
use native.Mathlib.Omega.{arith}
use Rattle.spec.specs.Layout.Format.{Bytes, bytes_of, number_at, concat_map, All}
use Rattle.spec.specs.Map.Tables as tables
use Rattle.spec_laws.proofs.Wire.Bytes.{bytes-number, number-below}
use Rattle.map_tables.specs.View.{view_node, view_collection, view_shard, view_session, view_map}
use Rattle.map_tables.specs.declared.NodeRow.{NodeRow}
use Rattle.map_tables.specs.declared.CollectionRow.{CollectionRow}
use Rattle.map_tables.specs.declared.ShardRow.{ShardRow}
use Rattle.map_tables.specs.declared.SessionRow.{SessionRow}
use Rattle.image_parts.specs.Shape.{items, value, Stored}
use Rattle.image_parts.proofs.Images.{length-items}
use Rattle.image_parts.proofs.Tidied.{all_map}
use Rattle.image_map_form.specs.Canon.{image_node, image_collection, image_shard, image_session}
use Rattle.image_map_row.specs.Rows.{node_f, node_of, node_at, node_bytes, collection_f, collection_of, collection_at, collection_bytes, shard_f, shard_row_of, shard_at, shard_bytes, session_f, session_of, session_at, session_bytes}
use Rattle.image_map.specs.Image.{no_node, no_collection, no_shard, no_session, map_at, head_image, map_stored, MapWrites}
use Rattle.image_map.proofs.Image.{written_long}
use Rattle.image_map.proofs.Back.{NodeFits, CollectionFits, ShardFits, SessionFits, Fits, becomes}
use Rattle.image_map_put.specs.Few.{Few}
use Rattle.image_map_put.specs.Rows.{node_rows, collection_rows, shard_rows, session_rows, read_as}
use Rattle.image_move.proofs.Bytes.{Same, value_same, items-same, past, drop-far}
use Rattle.image_map_put.proofs.Good.{items-all, good, node_of_lem, collection_of_lem, shard_of_lem, session_of_lem}
use Rattle.image_map_put.proofs.Tidy.{rows-used}

-- ---- rows whose bytes are the same

pub node-same : (s t : List ℕ) (p q : ℕ) → Same s p t q 96 → node_at s p ≡ node_at t q
unfolding node_at
node-same s t p q e = ap node_of (value_same s t node_f p q e)

pub collection-same : (s t : List ℕ) (p q : ℕ) → Same s p t q 56 → collection_at s p ≡ collection_at t q
unfolding collection_at
collection-same s t p q e = ap collection_of (value_same s t collection_f p q e)

pub shard-same : (s t : List ℕ) (p q : ℕ) → Same s p t q 272 → shard_at s p ≡ shard_at t q
unfolding shard_at
shard-same s t p q e = ap shard_row_of (value_same s t shard_f p q e)

pub session-same : (s t : List ℕ) (p q : ℕ) → Same s p t q 80 → session_at s p ≡ session_at t q
unfolding session_at
session-same s t p q e = ap session_of (value_same s t session_f p q e)

module _ (s : List ℕ) (few : Few s) where
  pub read_as_lem : view_map (map_at s) ≡ read_as s
  unfolding map_at
  read_as_lem =
      rw (rows-used (number_at 8 s 8) (node_at s) 96 40 no_node 32 few.nodes)
      (rw (rows-used (number_at 8 s 16) (collection_at s) 56 3112 no_collection 16 few.collections)
      (rw (rows-used (number_at 8 s 24) (shard_at s) 272 4008 no_shard 64 few.shards)
      (rw (rows-used (number_at 8 s 32) (session_at s) 80 21416 no_session 64 few.sessions))))

  pub nodes_long : length (read_as s).nodes ≡ number_at 8 s 8
  nodes_long = length-map (node_rows s) view_node ∙ length-items (number_at 8 s 8) (node_at s) 96 40

  pub collections_long : length (read_as s).collections ≡ number_at 8 s 16
  collections_long = length-map (collection_rows s) view_collection ∙ length-items (number_at 8 s 16) (collection_at s) 56 3112

  pub shards_long : length (read_as s).shards ≡ number_at 8 s 24
  shards_long = length-map (shard_rows s) view_shard ∙ length-items (number_at 8 s 24) (shard_at s) 272 4008

  pub sessions_long : length (read_as s).sessions ≡ number_at 8 s 32
  sessions_long = length-map (session_rows s) view_session ∙ length-items (number_at 8 s 32) (session_at s) 80 21416

  module _ (bytes : Bytes s) where
    pub fits : Fits (read_as s)
    unfolding node_at collection_at shard_at session_at
    fits = record {
      version = number-below 8 s 0 bytes;
      nodes = record {
        count = let k = length-map (read_as s).nodes image_node in let l = nodes_long in let m = few.nodes in omega arith;
        rows = all_map NodeFits image_node (read_as s).nodes (all_map (λ y. NodeFits (image_node y)) view_node (node_rows s) (items-all (λ r. NodeFits (image_node (view_node r))) (number_at 8 s 8) (node_at s) 96 40 (λ p. node_of_lem (value node_f s p) (good s bytes node_f p))));
      };
      collections = record {
        count = let k = length-map (read_as s).collections image_collection in let l = collections_long in let m = few.collections in omega arith;
        rows = all_map CollectionFits image_collection (read_as s).collections (all_map (λ y. CollectionFits (image_collection y)) view_collection (collection_rows s) (items-all (λ r. CollectionFits (image_collection (view_collection r))) (number_at 8 s 16) (collection_at s) 56 3112 (λ p. collection_of_lem (value collection_f s p) (good s bytes collection_f p))));
      };
      shards = record {
        count = let k = length-map (read_as s).shards image_shard in let l = shards_long in let m = few.shards in omega arith;
        rows = all_map ShardFits image_shard (read_as s).shards (all_map (λ y. ShardFits (image_shard y)) view_shard (shard_rows s) (items-all (λ r. ShardFits (image_shard (view_shard r))) (number_at 8 s 24) (shard_at s) 272 4008 (λ p. shard_of_lem (value shard_f s p) (good s bytes shard_f p))));
      };
      sessions = record {
        count = let k = length-map (read_as s).sessions image_session in let l = sessions_long in let m = few.sessions in omega arith;
        rows = all_map SessionFits image_session (read_as s).sessions (all_map (λ y. SessionFits (image_session y)) view_session (session_rows s) (items-all (λ r. SessionFits (image_session (view_session r))) (number_at 8 s 32) (session_at s) 80 21416 (λ p. session_of_lem (value session_f s p) (good s bytes session_f p))));
      };
    }

    -- version and counts stand there already
    head_bytes_lem : head_image (read_as s) ++ drop 40 s ≡ s
    head_bytes_lem =
        let k = few.long in
        rw (nodes_long, collections_long, shards_long, sessions_long)
        (ap (λ (l : List ℕ). bytes_of 8 (number_at 8 s 0) ++ bytes_of 8 (number_at 8 s 8) ++ bytes_of 8 (number_at 8 s 16) ++ bytes_of 8 (number_at 8 s 24) ++ l) (bytes-number 8 s 32 bytes (omega arith))
        ∙ ap (λ (l : List ℕ). bytes_of 8 (number_at 8 s 0) ++ bytes_of 8 (number_at 8 s 8) ++ bytes_of 8 (number_at 8 s 16) ++ l) (bytes-number 8 s 24 bytes (omega arith))
        ∙ ap (λ (l : List ℕ). bytes_of 8 (number_at 8 s 0) ++ bytes_of 8 (number_at 8 s 8) ++ l) (bytes-number 8 s 16 bytes (omega arith))
        ∙ ap (λ (l : List ℕ). bytes_of 8 (number_at 8 s 0) ++ l) (bytes-number 8 s 8 bytes (omega arith))
        ∙ bytes-number 8 s 0 bytes (omega arith))

    head_stands : sets s 0 (head_image (read_as s)) ≡ s
    head_stands = let k = few.long in sets-eq (head_image (read_as s)) s 0 (omega arith) ∙ head_bytes_lem

    abbrev N : List NodeRow → List ℕ
    N l = concat_map node_bytes (map image_node (map view_node l))

    abbrev C : List CollectionRow → List ℕ
    C l = concat_map collection_bytes (map image_collection (map view_collection l))

    abbrev H : List ShardRow → List ℕ
    H l = concat_map shard_bytes (map image_shard (map view_shard l))

    abbrev E : List SessionRow → List ℕ
    E l = concat_map session_bytes (map image_session (map view_session l))

    -- one table after another; behind each all is as it was
    module _ (t₁ t₂ t₃ t₄ : List ℕ)
        (nodes : (t₁ ≡ sets s 40 (N (node_rows s))) × (drop (40 + 96 * number_at 8 s 8) t₁ ≡ drop (40 + 96 * number_at 8 s 8) s))
        (collections : (t₂ ≡ sets t₁ 3112 (C (items (number_at 8 s 16) (collection_at t₁) 56 3112))) × (drop (3112 + 56 * number_at 8 s 16) t₂ ≡ drop (3112 + 56 * number_at 8 s 16) t₁))
        (shards : (t₃ ≡ sets t₂ 4008 (H (items (number_at 8 s 24) (shard_at t₂) 272 4008))) × (drop (4008 + 272 * number_at 8 s 24) t₃ ≡ drop (4008 + 272 * number_at 8 s 24) t₂))
        (sessions : t₄ ≡ sets t₃ 21416 (E (items (number_at 8 s 32) (session_at t₃) 80 21416))) where
      past₁ : drop 3112 t₁ ≡ drop 3112 s
      past₁ = drop-far t₁ s (40 + 96 * number_at 8 s 8) 3112 (let k = few.nodes in omega arith) nodes.1

      past₂ : drop 4008 t₂ ≡ drop 4008 s
      past₂ = drop-far t₂ t₁ (3112 + 56 * number_at 8 s 16) 4008 (let k = few.collections in omega arith) collections.1 ∙ drop-far t₁ s 3112 4008 (omega arith) past₁

      past₃ : drop 21416 t₃ ≡ drop 21416 s
      past₃ = drop-far t₃ t₂ (4008 + 272 * number_at 8 s 24) 21416 (let k = few.shards in omega arith) shards.1 ∙ drop-far t₂ s 4008 21416 (omega arith) past₂

      is₁ : t₁ ≡ sets (sets s 0 (head_image (read_as s))) 40 (N (node_rows s))
      is₁ = nodes.0 ∙ ap (λ (u : List ℕ). sets u 40 (N (node_rows s))) (sym head_stands)

      is₂ : t₂ ≡ sets (sets (sets s 0 (head_image (read_as s))) 40 (N (node_rows s))) 3112 (C (collection_rows s))
      is₂ =
          collections.0
          ∙ ap (λ (l : List CollectionRow). sets t₁ 3112 (C l)) (items-same t₁ s (number_at 8 s 16) (collection_at t₁) (collection_at s) 56 3112 3112 (collection-same t₁ s) (past t₁ s 3112 (number_at 8 s 16 * 56) past₁))
          ∙ ap (λ (u : List ℕ). sets u 3112 (C (collection_rows s))) is₁

      is₃ : t₃ ≡ sets (sets (sets (sets s 0 (head_image (read_as s))) 40 (N (node_rows s))) 3112 (C (collection_rows s))) 4008 (H (shard_rows s))
      is₃ =
          shards.0
          ∙ ap (λ (l : List ShardRow). sets t₂ 4008 (H l)) (items-same t₂ s (number_at 8 s 24) (shard_at t₂) (shard_at s) 272 4008 4008 (shard-same t₂ s) (past t₂ s 4008 (number_at 8 s 24 * 272) past₂))
          ∙ ap (λ (u : List ℕ). sets u 4008 (H (shard_rows s))) is₂

      is₄ : t₄ ≡ map_stored s (read_as s)
      unfolding map_stored
      is₄ =
          sessions
          ∙ ap (λ (l : List SessionRow). sets t₃ 21416 (E l)) (items-same t₃ s (number_at 8 s 32) (session_at t₃) (session_at s) 80 21416 21416 (session-same t₃ s) (past t₃ s 21416 (number_at 8 s 32 * 80) past₃))
          ∙ ap (λ (u : List ℕ). sets u 21416 (E (session_rows s))) is₃

      pub written : MapWrites s t₄ (map_at s)
      written =
          let image : t₄ ≡ map_stored s (view_map (map_at s)) = is₄ ∙ ap (map_stored s) (sym read_as_lem) in
          record {
            image = image ∙ written_long s (map_at s) few.long;
            becomes = λ room. becomes s (view_map (map_at s)) room (subst Fits (sym read_as_lem) fits) t₄ image;
          }

-- the same, of counts that were read
module _ (s : List ℕ) (few : Few s) (bytes : Bytes s) (a b d f : ℕ) (t₁ t₂ t₃ t₄ : List ℕ) where
  pub as_counted : a ≡ number_at 8 s 8 → b ≡ number_at 8 s 16 → d ≡ number_at 8 s 24 → f ≡ number_at 8 s 32
      → (t₁ ≡ sets s 40 (concat_map node_bytes (map image_node (map view_node (items a (node_at s) 96 40))))) × (drop (40 + 96 * a) t₁ ≡ drop (40 + 96 * a) s)
      → (t₂ ≡ sets t₁ 3112 (concat_map collection_bytes (map image_collection (map view_collection (items b (collection_at t₁) 56 3112))))) × (drop (3112 + 56 * b) t₂ ≡ drop (3112 + 56 * b) t₁)
      → (t₃ ≡ sets t₂ 4008 (concat_map shard_bytes (map image_shard (map view_shard (items d (shard_at t₂) 272 4008))))) × (drop (4008 + 272 * d) t₃ ≡ drop (4008 + 272 * d) t₂)
      → t₄ ≡ sets t₃ 21416 (concat_map session_bytes (map image_session (map view_session (items f (session_at t₃) 80 21416))))
      → MapWrites s t₄ (map_at s)
  as_counted ea eb ed ef q r u v = written s few bytes t₁ t₂ t₃ t₄ (rw ea at q) (rw eb at r) (rw ed at u) (rw ef at v)
