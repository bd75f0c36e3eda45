-- A map is written back over its image as it was found, though the image was changed before: every byte that changed is one of those that are
-- written. Assumes nothing.
use Prim.Native.Nat.{ℕ, ◌+◌, ◌-◌, ◌*◌, ◌≤◌, ◌<◌}
use mathlib.Core.Path.{◌≡◌, refl, sym, ap, subst, ◌∙◌}
use mathlib.Core.Bool.{Bool, true, false}
use mathlib.Core.List.{List, map}
use lib.Dec.{ltb}
use lib.ListN.{length, get_or, length-map}
use lib.Seq.{sets, length-sets, ext_get_or}
use native.Mathlib.Omega.{arith}
use borrow.Author.Tests.{ltb-true, ltb-false}
use Rattle.spec.specs.Layout.Format.{bytes_of, concat_map}
use Rattle.spec.specs.Map.Tables as tables
use Rattle.spec_laws.proofs.Wire.Bytes.{length-bytes}
use Rattle.map_tables.specs.declared.NodeRow.{NodeRow}
use Rattle.map_tables.specs.declared.CollectionRow.{CollectionRow}
use Rattle.map_tables.specs.declared.ShardRow.{ShardRow}
use Rattle.map_tables.specs.declared.SessionRow.{SessionRow}
use Rattle.image_parts.proofs.Back.{length-encode, length-rows}
use Rattle.image_map_form.specs.Canon.{image_node, image_collection, image_shard, image_session}
use Rattle.image_map_row.specs.Rows.{node_f, node_value, node_bytes, collection_f, collection_value, collection_bytes, shard_f, shard_value, shard_bytes, session_f, session_value, session_bytes}
use Rattle.image_map.specs.Image.{head_image, map_stored}
use Rattle.image_map.proofs.Back.{NodeFits, CollectionFits, ShardFits, SessionFits, Fits}
use Rattle.image_map_edit.specs.Becomes.{Apart}
use Rattle.image_map_edit.specs.Edits.{Within}
use Rattle.image_move.proofs.Moves.{sets_below, sets_behind, sets_in}

pub within_self : (s : List ℕ) (a b c d : ℕ) → Within s s a b c d
within_self s a b c d = record { long = refl; nodes = λ i h k. refl; collections = λ i h k. refl; shards = λ i h k. refl; sessions = λ i h. refl }

pub within-then : {s t u : List ℕ} {a b c d : ℕ} → Within s t a b c d → Within t u a b c d → Within s u a b c d
within-then p q = record {
  long = q.long ∙ p.long;
  nodes = λ i h k. q.nodes i h k ∙ p.nodes i h k;
  collections = λ i h k. q.collections i h k ∙ p.collections i h k;
  shards = λ i h k. q.shards i h k ∙ p.shards i h k;
  sessions = λ i h. q.sessions i h ∙ p.sessions i h;
}

-- of an image none of whose sessions changed
pub within-any : {s t : List ℕ} {a b c : ℕ} (d : ℕ) → Within s t a b c 0 → Within s t a b c d
within-any d p =
    record { long = p.long; nodes = p.nodes; collections = p.collections; shards = p.shards; sessions = λ i h. p.sessions i (omega arith) }

module _ {s t : List ℕ} (a b c d : ℕ) where
  pub within_version : (v : ℕ) → t ≡ sets s 0 (bytes_of 8 v) → Within s t a b c d
  within_version v e =
      let l = length-bytes 8 v in
      let past : (i : ℕ) → 40 ≤ i → get_or t i 0 ≡ get_or s i 0 = λ i h. ap (λ (u : List ℕ). get_or u i 0) e ∙ sets_behind s 0 (bytes_of 8 v) i (omega arith) in
      record {
        long = ap length e ∙ length-sets s 0 (bytes_of 8 v);
        nodes = λ i h k. past i (omega arith);
        collections = λ i h k. past i (omega arith);
        shards = λ i h k. past i (omega arith);
        sessions = λ i h. past i (omega arith);
      }

  pub within-sessions : Apart s t 32 21416 (21416 + 80 * d) → Within s t a b c d
  within-sessions p = record {
    long = p.long;
    nodes = λ i h k. p.between i (omega arith) (omega arith);
    collections = λ i h k. p.between i (omega arith) (omega arith);
    shards = λ i h k. p.between i (omega arith) (omega arith);
    sessions = λ i h. p.behind i h;
  }

  pub within-shards : c ≤ 64 → Apart s t 24 4008 (4008 + 272 * c) → Within s t a b c d
  within-shards few p = record {
    long = p.long;
    nodes = λ i h k. p.between i (omega arith) (omega arith);
    collections = λ i h k. p.between i (omega arith) (omega arith);
    shards = λ i h k. p.behind i h;
    sessions = λ i h. p.behind i (omega arith);
  }

  pub within-collections : b ≤ 16 → Apart s t 16 3112 (3112 + 56 * b) → Within s t a b c d
  within-collections few p = record {
    long = p.long;
    nodes = λ i h k. p.between i (omega arith) (omega arith);
    collections = λ i h k. p.behind i h;
    shards = λ i h k. p.behind i (omega arith);
    sessions = λ i h. p.behind i (omega arith);
  }

  pub within-nodes : a ≤ 32 → Apart s t 8 40 (40 + 96 * a) → Within s t a b c d
  within-nodes few p = record {
    long = p.long;
    nodes = λ i h k. p.behind i h;
    collections = λ i h k. p.behind i (omega arith);
    shards = λ i h k. p.behind i (omega arith);
    sessions = λ i h. p.behind i (omega arith);
  }

-- ---- the bytes of a map's image over others

node_long : (r : NodeRow) → NodeFits r → length (node_bytes r) ≡ 96
unfolding node_bytes
node_long r g = length-encode node_f (node_value r) g

collection_long : (r : CollectionRow) → CollectionFits r → length (collection_bytes r) ≡ 56
unfolding collection_bytes
collection_long r g = length-encode collection_f (collection_value r) g

shard_long : (r : ShardRow) → ShardFits r → length (shard_bytes r) ≡ 272
unfolding shard_bytes
shard_long r g = length-encode shard_f (shard_value r) g

session_long : (r : SessionRow) → SessionFits r → length (session_bytes r) ≡ 80
unfolding session_bytes
session_long r g = length-encode session_f (session_value r) g

module _ (x : tables.Map) (fits : Fits x) where
  abbrev H : List ℕ
  H = head_image x

  abbrev N : List ℕ
  N = concat_map node_bytes (map image_node x.nodes)

  abbrev C : List ℕ
  C = concat_map collection_bytes (map image_collection x.collections)

  abbrev S : List ℕ
  S = concat_map shard_bytes (map image_shard x.shards)

  abbrev E : List ℕ
  E = concat_map session_bytes (map image_session x.sessions)

  pub record Sizes : Type 0 where
    pub head : length H ≡ 40
    pub nodes : length N ≡ 96 * length x.nodes
    pub nodes_few : length x.nodes ≤ 32
    pub collections : length C ≡ 56 * length x.collections
    pub collections_few : length x.collections ≤ 16
    pub shards : length S ≡ 272 * length x.shards
    pub shards_few : length x.shards ≤ 64
    pub sessions : length E ≡ 80 * length x.sessions
    pub sessions_few : length x.sessions ≤ 64

  sizes : Sizes
  sizes =
      let mn = length-map x.nodes image_node in
      let mc = length-map x.collections image_collection in
      let ms = length-map x.shards image_shard in
      let me = length-map x.sessions image_session in
      let cn = fits.nodes.count in
      let cc₁ = fits.collections.count in
      let cs = fits.shards.count in
      let ce = fits.sessions.count in
      let ln = length-rows NodeFits node_bytes 96 node_long (map image_node x.nodes) fits.nodes.rows in
      let lc = length-rows CollectionFits collection_bytes 56 collection_long (map image_collection x.collections) fits.collections.rows in
      let ls = length-rows ShardFits shard_bytes 272 shard_long (map image_shard x.shards) fits.shards.rows in
      let le = length-rows SessionFits session_bytes 80 session_long (map image_session x.sessions) fits.sessions.rows in
      record {
        head = refl;
        nodes = omega arith;
        nodes_few = omega arith;
        collections = omega arith;
        collections_few = omega arith;
        shards = omega arith;
        shards_few = omega arith;
        sessions = omega arith;
        sessions_few = omega arith;
      }

  -- one table over two lists: they agree on its bytes, and elsewhere where they did
  both : (u v : List ℕ) (at : ℕ) (bs : List ℕ) (i : ℕ) → length u ≡ length v → at + length bs ≤ length v
      → (i < at → get_or u i 0 ≡ get_or v i 0) → (at + length bs ≤ i → get_or u i 0 ≡ get_or v i 0) → get_or (sets u at bs) i 0 ≡ get_or (sets v at bs) i 0
  both u v at bs i e room below behind = go (ltb i at) (ltb i (at + length bs)) refl refl
    where
      go : (p q : Bool) → ltb i at ≡ p → ltb i (at + length bs) ≡ q → get_or (sets u at bs) i 0 ≡ get_or (sets v at bs) i 0
      go true q f g = let h = ltb-true i at f in sets_below u at bs i h ∙ below h ∙ sym (sets_below v at bs i h)
      go false false f g = let h = ltb-false i (at + length bs) g in sets_behind u at bs i h ∙ behind h ∙ sym (sets_behind v at bs i h)
      go false true f g =
          let h = ltb-false i at f in
          let k = ltb-true i (at + length bs) g in
          let q : at + (i - at) ≡ i = omega arith in
          let l : get_or (sets u at bs) i 0 ≡ get_or bs (i - at) 0 = rw q at (sets_in u at bs (i - at) (omega arith) (omega arith)) in
          let r : get_or (sets v at bs) i 0 ≡ get_or bs (i - at) 0 = rw q at (sets_in v at bs (i - at) (omega arith) (omega arith)) in
          l ∙ sym r

  module _ (s t : List ℕ) (w : Within s t (length x.nodes) (length x.collections) (length x.shards) (length x.sessions)) (room : 26536 ≤ length s) where
    pub cover : map_stored t x ≡ map_stored s x
    unfolding map_stored
    cover =
        let z = sizes in
        let zh = z.head in
        let zn = z.nodes in
        let fn = z.nodes_few in
        let zc = z.collections in
        let fc = z.collections_few in
        let zs = z.shards in
        let fs = z.shards_few in
        let ze = z.sessions in
        let fe = z.sessions_few in
        let l = w.long in
        let t₀ = sets t 0 H in
        let s₀ = sets s 0 H in
        let lt₀ = length-sets t 0 H in
        let ls₀ = length-sets s 0 H in
        let t₁ = sets t₀ 40 N in
        let s₁ = sets s₀ 40 N in
        let lt₁ = length-sets t₀ 40 N in
        let ls₁ = length-sets s₀ 40 N in
        let t₂ = sets t₁ 3112 C in
        let s₂ = sets s₁ 3112 C in
        let lt₂ = length-sets t₁ 3112 C in
        let ls₂ = length-sets s₁ 3112 C in
        let t₃ = sets t₂ 4008 S in
        let s₃ = sets s₂ 4008 S in
        let lt₃ = length-sets t₂ 4008 S in
        let ls₃ = length-sets s₂ 4008 S in
        let lt₄ = length-sets t₃ 21416 E in
        let ls₄ = length-sets s₃ 21416 E in
        let head : (i : ℕ) → (40 ≤ i → get_or t i 0 ≡ get_or s i 0) → get_or t₀ i 0 ≡ get_or s₀ i 0 = λ i f. both t s 0 H i l (omega arith) (λ h. absurd (omega arith)) (λ h. f (omega arith)) in
        let first : (i : ℕ) → (40 + length N ≤ i → get_or t i 0 ≡ get_or s i 0) → get_or t₁ i 0 ≡ get_or s₁ i 0 = λ i f. both t₀ s₀ 40 N i (omega arith) (omega arith) (λ h. head i (λ k. absurd (omega arith))) (λ h. head i (λ k. f h)) in
        let second : (i : ℕ) → (3112 + length C ≤ i → get_or t i 0 ≡ get_or s i 0) → get_or t₂ i 0 ≡ get_or s₂ i 0 = λ i f. both t₁ s₁ 3112 C i (omega arith) (omega arith) (λ h. first i (λ k. w.nodes i (omega arith) h)) (λ h. first i (λ k. f h)) in
        let third : (i : ℕ) → (4008 + length S ≤ i → get_or t i 0 ≡ get_or s i 0) → get_or t₃ i 0 ≡ get_or s₃ i 0 = λ i f. both t₂ s₂ 4008 S i (omega arith) (omega arith) (λ h. second i (λ k. w.collections i (omega arith) h)) (λ h. second i (λ k. f h)) in
        ext_get_or 0 (sets t₃ 21416 E) (sets s₃ 21416 E) (omega arith)
        (λ i bound. both t₃ s₃ 21416 E i (omega arith) (omega arith) (λ h. third i (λ k. w.shards i (omega arith) h)) (λ h. third i (λ k. w.sessions i (omega arith))))
