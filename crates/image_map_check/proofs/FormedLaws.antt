-- The map's test, table by table. Assumes nothing.
use Prim.Native.Nat.{ℕ}
use mathlib.Core.Path.{◌≡◌, sym, ◌∙◌}
use mathlib.Core.Bool.{true, false}
use mathlib.Core.List.{List}
use Rattle.spec.specs.Lists.{◌and◌}
use Rattle.map_check.specs.Lent.{nodes_fit, collections_fit, shards_fit, sessions_fit, well_formed_lent}
use Rattle.map_check.proofs.Formed.{by-table}
use Rattle.image_map.specs.Image.{nodes_at, collections_at, shards_at, sessions_at, map_at}

module _ (s : List ℕ) where
  pub tables : well_formed_lent (map_at s) ≡ nodes_fit (nodes_at s) and collections_fit (collections_at s) and shards_fit (shards_at s) and sessions_fit (sessions_at s)
  unfolding map_at
  tables = by-table (map_at s)

  pub formed-none : nodes_fit (nodes_at s) ≡ false → false ≡ well_formed_lent (map_at s)
  unfolding ◌and◌
  formed-none a = sym (tables ∙ rw a)

  pub formed-second : nodes_fit (nodes_at s) ≡ true → collections_fit (collections_at s) ≡ false → false ≡ well_formed_lent (map_at s)
  unfolding ◌and◌
  formed-second a b = sym (tables ∙ rw (a, b))

  pub formed-third : nodes_fit (nodes_at s) ≡ true → collections_fit (collections_at s) ≡ true → shards_fit (shards_at s) ≡ false → false ≡ well_formed_lent (map_at s)
  unfolding ◌and◌
  formed-third a b c = sym (tables ∙ rw (a, b, c))

  pub formed-last : nodes_fit (nodes_at s) ≡ true → collections_fit (collections_at s) ≡ true → shards_fit (shards_at s) ≡ true
      → sessions_fit (sessions_at s) ≡ well_formed_lent (map_at s)
  unfolding ◌and◌
  formed-last a b c = sym (tables ∙ rw (a, b, c))
