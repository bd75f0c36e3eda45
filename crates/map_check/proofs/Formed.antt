-- What a lent map that is not refused with 24 gives its caller: the counts beside its arrays, and the map that they are read as. Assumes
-- nothing.
use mathlib.Core.Path.{◌≡◌, ap, ◌∙◌}
use mathlib.Core.Bool.{Bool, true}
use mathlib.Core.List.{List}
use Prim.Native.Nat.{ℕ, ◌≤◌}
use lib.ListN.{take}
use lib.Dec.{leb}
use borrow.Author.Tests.{leb-true}
use Rattle.spec.specs.Lists.{◌and◌, every}
use Rattle.spec.specs.Map.WellFormed.{well_formed_map}
use Rattle.spec_laws.proofs.Lists.{and_left, and_right}
use Rattle.spec_laws.proofs.Map.Rows.{every_to}
use Rattle.map_tables.specs.View.{view_map}
use Rattle.map_tables.specs.Counted.{row_counted, TablesCounted}
use Rattle.map_tables.specs.declared.ShardMap.{ShardMap}
use Rattle.map_check.specs.Rows.{name_counted, shard_counted}
use Rattle.map_check.specs.Lent.{table_counted, nodes_counted, collections_counted, shards_counted, sessions_counted, counted, well_formed_lent, nodes_fit, collections_fit, shards_fit, sessions_fit}
use Rattle.map_check.proofs.Scan.{and_pairs}

-- table by table
pub by-table : (m : ShardMap) → well_formed_lent m ≡ nodes_fit m.nodes and collections_fit m.collections and shards_fit m.shards and sessions_fit m.sessions
unfolding well_formed_lent counted well_formed_map
by-table m =
    and_pairs (nodes_counted m.nodes) _ _ _
    ∙ ap (λ (t : Bool). nodes_fit m.nodes and t) (and_pairs (collections_counted m.collections) _ _ _
    ∙ ap (λ (t : Bool). collections_fit m.collections and t) (and_pairs (shards_counted m.shards) _ _ _))

module _ {ℓ} {A : Type ℓ} (limit : ℕ) (row : A → Bool) (n : ℕ) (items : List A) (h : table_counted limit row n items ≡ true) where
  pub count-within : n ≤ limit
  unfolding table_counted
  count-within = leb-true n limit (and_left _ _ h)

  pub rows-within : every row (take n items) ≡ true
  unfolding table_counted
  rows-within = and_right (leb n limit) _ h

module _ (m : ShardMap) (h : well_formed_lent m ≡ true) where
  pub lent-counted : counted m ≡ true
  unfolding well_formed_lent
  lent-counted = and_left (counted m) _ h

  pub lent-formed : well_formed_map (view_map m) ≡ true
  unfolding well_formed_lent
  lent-formed = and_right (counted m) _ h

  nodes_in : nodes_counted m.nodes ≡ true
  unfolding counted
  nodes_in = and_left (nodes_counted m.nodes) _ lent-counted

  collections_in : collections_counted m.collections ≡ true
  unfolding counted
  collections_in = and_left (collections_counted m.collections) _ (and_right (nodes_counted m.nodes) _ lent-counted)

  shards_in : shards_counted m.shards and sessions_counted m.sessions ≡ true
  unfolding counted
  shards_in = and_right (collections_counted m.collections) _ (and_right (nodes_counted m.nodes) _ lent-counted)

  -- every row of the shard table within its arrays, its name too
  pub lent-shards : every shard_counted (take m.shards.count m.shards.items) ≡ true
  lent-shards = rows-within 64 shard_counted m.shards.count m.shards.items (and_left (shards_counted m.shards) _ shards_in)

  pub lent_tables : TablesCounted m
  lent_tables = record {
    nodes = count-within 32 _ m.nodes.count m.nodes.items nodes_in;
    collections = count-within 16 _ m.collections.count m.collections.items collections_in;
    shards = record {
      count = count-within 64 shard_counted m.shards.count m.shards.items (and_left (shards_counted m.shards) _ shards_in);
      rows = every_to shard_counted row_counted (λ s e. and_right (name_counted s.key.collection) _ e) (take m.shards.count m.shards.items) lent-shards;
    };
    sessions = count-within 64 _ m.sessions.count m.sessions.items (and_right (shards_counted m.shards) _ shards_in);
  }
