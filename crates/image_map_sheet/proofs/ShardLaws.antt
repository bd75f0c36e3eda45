-- The steps of counting a map's replica records shard by shard, in its bytes. Assumes nothing.
use Prim.Native.Nat.{ℕ, ◌+◌, ◌*◌, ◌≤◌, ◌<◌}
use mathlib.Core.Path.{◌≡◌, sym, ap, ◌∙◌}
use mathlib.Core.List.{List, [], ◌∷◌}
use lib.ListN.{length, take, drop}
use lib.Seq.{length-take-le}
use native.Mathlib.Omega.{arith}
use Rattle.spec.specs.Layout.Format.{number_at}
use Rattle.spec.specs.Map.Tables.{ShardInfo}
use Rattle.spec.specs.declared.Replica.{Replica}
use Rattle.map_tables.specs.Counted.{ShardsCounted}
use Rattle.map_tables.specs.View.{view_shard, view_shards}
use Rattle.image_parts.specs.Parts.{replicas_at}
use Rattle.image_map_row.specs.Rows.{shard_at}
use Rattle.image_map.specs.Image.{shards_at}
use Rattle.image_map_check.proofs.RowLaws.{held-is, replicas-is, replicas_long}
use Rattle.image_map_loads.proofs.Rows.{shard-next, shards-end, held-few}

row-replicas : (s : List ℕ) (at : ℕ) → (view_shard (shard_at s at)).replicas ≡ take (number_at 8 s (at + 64)) (replicas_at s (at + 80))
row-replicas s at =
    ap (λ (k : ℕ). take k (shard_at s at).replicas.items) (held-is s at)
    ∙ ap (λ (l : List Replica). take (number_at 8 s (at + 64)) l) (replicas-is s at)

-- what is counted of a shard is counted of its records
module _ (f : List Replica → ℕ) (g : List ShardInfo → ℕ) (s : List ℕ) (fit : ShardsCounted (shards_at s)) (n i : ℕ)
    (inv : g (view_shards (shards_at s)) ≡ n + g (drop i (view_shards (shards_at s)))) where
  pub shard-more : ((x : ShardInfo) (xs : List ShardInfo) → g (x ∷ xs) ≡ f x.replicas + g xs)
      → (held k : ℕ) → i < number_at 8 s 24 → held ≡ number_at 8 s (4008 + 272 * i + 64) → k ≡ f (take held (replicas_at s (4008 + 272 * i + 80)))
      → g (view_shards (shards_at s)) ≡ n + k + g (drop (i + 1) (view_shards (shards_at s)))
  shard-more more held k h e q =
      let own : k ≡ f (view_shard (shard_at s (4008 + 272 * i))).replicas =
      q ∙ ap (λ (j : ℕ). f (take j (replicas_at s (4008 + 272 * i + 80)))) e ∙ ap f (sym (row-replicas s (4008 + 272 * i))) in
      let next = ap g (shard-next s fit i h) ∙ more (view_shard (shard_at s (4008 + 272 * i))) (drop (i + 1) (view_shards (shards_at s))) in
      omega arith

  pub shards-all : g [] ≡ 0 → number_at 8 s 24 ≤ i → n ≡ g (view_shards (shards_at s))
  shards-all none h = let last = ap g (shards-end s fit i h) in omega arith

-- how many records a shard has
pub held_long : (s : List ℕ) → ShardsCounted (shards_at s) → (i held : ℕ) → i < number_at 8 s 24 → held ≡ number_at 8 s (4008 + 272 * i + 64)
    → (held ≡ length (take held (replicas_at s (4008 + 272 * i + 80)))) × (held ≤ 8)
held_long s fit i held h e =
    let few = held-few s fit i h in
    let long = replicas_long s (4008 + 272 * i + 80) in
    (sym (length-take-le held (replicas_at s (4008 + 272 * i + 80)) (omega arith)), omega arith)
