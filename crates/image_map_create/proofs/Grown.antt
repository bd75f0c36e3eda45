-- The shards of a new collection put in one after another. Assumes nothing.
use Prim.Native.Nat.{ℕ, ◌+◌, ◌*◌, ◌≤◌, ◌<◌}
use mathlib.Core.Path.{◌≡◌, refl, sym, ap, subst, ◌∙◌}
use mathlib.Core.List.{List, []}
use lib.ListN.{length, drop, get_or}
use native.Mathlib.Omega.{arith}
use Rattle.spec.specs.Keys.{Name}
use Rattle.spec.specs.Lists.{put}
use Rattle.spec.specs.Map.Create.{Placement, new_shard, shard_below, with_shards}
use Rattle.spec.specs.Map.Tables as tables
use Rattle.spec_laws.proofs.Map.Rows.{put_least}
use Rattle.map_create.proofs.List.{open_shards, shards-end, shards_least}
use Rattle.image_map_put.specs.Few.{Few}
use Rattle.image_map_put.specs.Rows.{read_as}
use Rattle.image_map_edit.specs.Becomes.{Apart, ShardsBecome}
use Rattle.image_map_edit.proofs.Apart.{apart_self, apart-then, apart_more}
use Rattle.image_map_edit.proofs.Frames.{after-shards}

module _ (s : List ℕ) (name : Name) (v : Placement) where
  abbrev nodes : List tables.NodeInfo
  nodes = (read_as s).nodes

  abbrev whole : List tables.ShardInfo
  whole = with_shards (read_as s).shards nodes name 0 v

  -- the shards of the first i lists are in
  pub record Grown (out : List ℕ) (i : ℕ) : Type 0 where
    pub few : Few out
    pub same : (read_as out).nodes ≡ nodes
    pub become : ShardsBecome s out (read_as out).shards
    pub left : whole ≡ with_shards (read_as out).shards nodes name i (drop i v)

  pub grown-start : Few s → Grown s 0
  grown-start few = record { few = few; same = refl; become = record { apart = apart_self s 24 4008 _; view = refl; counted = λ e. e }; left = refl }

  pub grown-end : (out : List ℕ) (i : ℕ) → Grown out i → length v ≤ i → ShardsBecome s out whole
  grown-end out i g h = subst (ShardsBecome s out) (sym (g.left ∙ shards-end nodes name (read_as out).shards v i h)) g.become

  module _ (out : List ℕ) (i : ℕ) (g : Grown out i) (lt : i < length v) (x : tables.ShardInfo) (l : List ℕ) (at : get_or v i [] ≡ l) (new : x ≡ new_shard (read_as out).nodes name i l) where
    opened : whole ≡ with_shards (put shard_below x (read_as out).shards) nodes name (i + 1) (drop (i + 1) v)
    opened =
        g.left ∙ open_shards nodes name (read_as out).shards v i l lt at
        ∙ ap (λ (y : tables.ShardInfo). with_shards (put shard_below y (read_as out).shards) nodes name (i + 1) (drop (i + 1) v)) (sym (new ∙ ap (λ (ns : List tables.NodeInfo). new_shard ns name i l) g.same))

    pub grown-room : length whole ≤ 64 → length (put shard_below x (read_as out).shards) ≤ 64
    grown-room h = let q = ap length opened in let k = shards_least nodes name (put shard_below x (read_as out).shards) (i + 1) (drop (i + 1) v) in omega arith

    pub grown-step : length whole ≤ 64 → (m : List ℕ) → ShardsBecome out m (put shard_below x (read_as out).shards) → Grown m (i + 1)
    grown-step room m b =
        let after = after-shards out m g.few (put shard_below x (read_as out).shards) (grown-room room) b in
        let k = put_least shard_below x (read_as out).shards in
        let first = apart_more (4008 + 272 * length (put shard_below x (read_as out).shards)) (omega arith) g.become.apart in
        record {
          few = after.few;
          same = ap (λ (y : tables.Map). y.nodes) after.view ∙ g.same;
          become = record {
            apart = subst (λ (y : List tables.ShardInfo). Apart s m 24 4008 (4008 + 272 * length y)) (sym b.view) (apart-then first b.apart);
            view = refl;
            counted = λ e. b.counted (g.become.counted e);
          };
          left = opened ∙ ap (λ (y : List tables.ShardInfo). with_shards y nodes name (i + 1) (drop (i + 1) v)) (sym b.view);
        }
