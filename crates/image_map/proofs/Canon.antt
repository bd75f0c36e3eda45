-- The tables and the map of canonical rows (crate `image_map_form`, specs/Canon.antt): each is read as that of `spec` that it was made of. Assumes
-- nothing.
use Prim.Native.Nat.{ℕ}
use mathlib.Core.Path.{◌≡◌, refl, sym, ap, ◌∙◌}
use mathlib.Core.List.{List, [], ◌∷◌, map}
use lib.ListN.{length, take, length-map}
use Rattle.spec.specs.Map.Tables as tables
use Rattle.map_tables.specs.View.{view_node, view_collection, view_shard, view_session, view_map}
use Rattle.image_parts.specs.Canon.{padded}
use Rattle.image_parts.proofs.Canon.{take-padded}
use Rattle.image_map_form.specs.Canon.{image_node, image_collection, image_shard, image_session}
use Rattle.image_map_form.proofs.Canon.{view-node, view-collection, view-shard, view-session}
use Rattle.image_map.specs.Image.{no_node, no_collection, no_shard, no_session, image_map}

mapped_back : {A B : Type 0} (view : A → B) (image : B → A) → ((x : B) → view (image x) ≡ x) → (l : List B) → map view (map image l) ≡ l
mapped_back view image law [] = refl
mapped_back view image law (x ∷ l) = rw (law x, mapped_back view image law l)

-- the rows in use of a table that is written
pub take-table : {A B : Type 0} (image : B → A) (limit : ℕ) (past : A) (l : List B) → take (length l) (padded limit past (map image l)) ≡ map image l
take-table image limit past l =
    ap (λ (n : ℕ). take n (padded limit past (map image l))) (sym (length-map l image)) ∙ take-padded limit past (map image l)

view-table : {A B : Type 0} (view : A → B) (image : B → A) → ((x : B) → view (image x) ≡ x) → (limit : ℕ) (past : A) (l : List B)
    → map view (take (length l) (padded limit past (map image l))) ≡ l
view-table view image law limit past l = ap (map view) (take-table image limit past l) ∙ mapped_back view image law l

pub view-map : (x : tables.Map) → view_map (image_map x) ≡ x
view-map x =
    rw (view-table view_node image_node view-node 32 no_node x.nodes, view-table view_collection image_collection view-collection 16 no_collection x.collections, view-table view_shard image_shard view-shard 64 no_shard x.shards, view-table view_session image_session view-session 64 no_session x.sessions)
