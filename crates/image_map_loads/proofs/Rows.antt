-- A map's nodes and shards, each at its place in the bytes. Assumes nothing.
use Prim.Native.Nat.{ℕ, ◌+◌, ◌*◌, ◌≤◌, ◌<◌}
use mathlib.Core.Path.{◌≡◌, ap, ◌∙◌}
use mathlib.Core.Bool.{Bool, true}
use mathlib.Core.List.{List, [], ◌∷◌, map}
use mathlib.Core.Option.{none, some}
use lib.ListN.{length, take, drop, get_or, drop_of_length-le}
use lib.Dec.{leb}
use borrow.Author.Tests.{leb-true}
use native.Mathlib.Omega.{arith}
use Rattle.spec.specs.Lists.{find}
use Rattle.spec.specs.Layout.Format.{number_at}
use Rattle.spec_laws.proofs.Lists.{and_left}
use Rattle.map_tables.specs.Counted.{row_counted, ShardsCounted}
use Rattle.map_tables.specs.Find.{first_at}
use Rattle.map_tables.specs.View.{view_node, view_nodes, view_shard, view_shards}
use Rattle.map_tables.specs.declared.ShardRow.{ShardRow}
use Rattle.map_tables.proofs.Tables.{used-size, every-at, found, missed}
use Rattle.map_check.specs.Lent.{well_formed_lent}
use Rattle.map_check.proofs.Formed.{lent_tables}
use Rattle.map_place.proofs.Collecting.{used-drop}
use Rattle.image_map_row.specs.Rows.{node_at, shard_at}
use Rattle.image_map.specs.Image.{no_node, no_shard, nodes_at, shards_at, map_at, map_lent, codes_listed}
use Rattle.image_map_check.proofs.RowLaws.{Rows, rows_long, rows_row, held-is}
use Rattle.image_map_loads.specs.Loads.{Used}

-- the rows in use from a place on
module _ {A B : Type 0} (limit w at : ℕ) (get : ℕ → A) (no : A) (n : ℕ) (v : A → B) (h : n ≤ limit) (i : ℕ) where
  room : n ≤ length (Rows limit w at get no n)
  room = let q = rows_long limit w at get no n h in omega arith

  pub row_next : i < n
      → drop i (map v (take n (Rows limit w at get no n))) ≡ v (get (at + w * i)) ∷ drop (i + 1) (map v (take n (Rows limit w at get no n)))
  row_next lt =
      used-drop v (Rows limit w at get no n) n room i no lt
      ∙ ap (λ (x : A). v x ∷ drop (i + 1) (map v (take n (Rows limit w at get no n)))) (rows_row limit w at get no n h i no lt)

  pub rows_end : n ≤ i → drop i (map v (take n (Rows limit w at get no n))) ≡ []
  rows_end e = drop_of_length-le (map v (take n (Rows limit w at get no n))) {i = i} (rw (used-size v (Rows limit w at get no n) n room) e)

-- the row that a search found
module _ {A B : Type 0} (limit w at : ℕ) (get : ℕ → A) (no : A) (n : ℕ) (v : A → B) (h : n ≤ limit) (p : B → Bool) (i : ℕ)
    (is : i ≡ first_at p (map v (take n (Rows limit w at get no n)))) where
  pub row-found : i < n → find p (map v (take n (Rows limit w at get no n))) ≡ some (v (get (at + w * i)))
  row-found lt =
      found v (Rows limit w at get no n) n (room limit w at get no n v h i) p i is no lt
      ∙ ap (λ (x : A). some (v x)) (rows_row limit w at get no n h i no lt)

  pub row_missed : n ≤ i → find p (map v (take n (Rows limit w at get no n))) ≡ none
  row_missed past = missed v (Rows limit w at get no n) n (room limit w at get no n v h i) p i is past

module _ (s : List ℕ) (few : number_at 8 s 8 ≤ 32) (i : ℕ) where
  pub node-next : i < number_at 8 s 8 → drop i (view_nodes (nodes_at s)) ≡ view_node (node_at s (40 + 96 * i)) ∷ drop (i + 1) (view_nodes (nodes_at s))
  node-next h = row_next 32 96 40 (node_at s) no_node (number_at 8 s 8) view_node few i h

  pub nodes-end : number_at 8 s 8 ≤ i → drop i (view_nodes (nodes_at s)) ≡ []
  nodes-end h = rows_end 32 96 40 (node_at s) no_node (number_at 8 s 8) view_node few i h

module _ (s : List ℕ) (fit : ShardsCounted (shards_at s)) (i : ℕ) where
  pub shard-next : i < number_at 8 s 24 → drop i (view_shards (shards_at s)) ≡ view_shard (shard_at s (4008 + 272 * i)) ∷ drop (i + 1) (view_shards (shards_at s))
  shard-next h = row_next 64 272 4008 (shard_at s) no_shard (number_at 8 s 24) view_shard fit.count i h

  pub shards-end : number_at 8 s 24 ≤ i → drop i (view_shards (shards_at s)) ≡ []
  shards-end h = rows_end 64 272 4008 (shard_at s) no_shard (number_at 8 s 24) view_shard fit.count i h

  -- no shard has more than eight replicas
  pub held-few : i < number_at 8 s 24 → number_at 8 s (4008 + 272 * i + 64) ≤ 8
  held-few h =
      let few = fit.count in
      let q = rows_long 64 272 4008 (shard_at s) no_shard (number_at 8 s 24) few in
      let ok = every-at row_counted (shards_at s).items (number_at 8 s 24) i no_shard (omega arith) fit.rows h in
      let row = ap (λ (x : ShardRow). x.replicas.count) (rows_row 64 272 4008 (shard_at s) no_shard (number_at 8 s 24) few i no_shard h) ∙ held-is s (4008 + 272 * i) in
      let least : (get_or (shards_at s).items i no_shard).replicas.count ≤ 8 = leb-true _ 8 (and_left _ _ ok) in
      omega arith

-- ---- what the test (24) leaves

pub lent_long : (s : List ℕ) → map_lent s ≡ true → 26536 ≤ length s
unfolding map_lent
lent_long s e = leb-true 26536 (length s) (and_left (leb 26536 (length s)) (codes_listed s) e)

pub used_of : (s : List ℕ) → map_lent s ≡ true → well_formed_lent (map_at s) ≡ true → Used s
unfolding map_at
used_of s e w = let t = lent_tables (map_at s) w in record { long = lent_long s e; nodes = t.nodes; shards = t.shards }
