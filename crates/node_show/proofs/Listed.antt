-- The metric of a shard's collection, by its place in the map's table. Assumes nothing.
use mathlib.Core.Path.{◌≡◌, ap, ◌∙◌}
use mathlib.Core.List.{List, []}
use mathlib.Core.Option.{none, some}
use Prim.Native.Nat.{ℕ, ◌<◌, ◌≤◌}
use lib.ListN.{length, get_or}
use Rattle.spec.specs.Lists.{find}
use Rattle.spec.specs.Keys.{Name}
use Rattle.spec.specs.Map.Tables as tables
use Rattle.spec.specs.Node.Shown as show
use Rattle.spec.specs.declared.Metric.TheVariants.{Euclidean}
use Rattle.map_tables.specs.declared.ShardRow.{ShardRow}
use Rattle.map_tables.specs.declared.CollectionRow.{CollectionRow}
use Rattle.map_tables.specs.declared.Collections.{Collections}
use Rattle.map_tables.specs.Find.{first_at}
use Rattle.map_tables.specs.Names.{view_name}
use Rattle.map_tables.specs.View.{view_collection, view_collections}
use Rattle.map_tables.proofs.Tables.{found, missed}

abbrev pub no_collection : CollectionRow
no_collection = record {
  name = record { bytes = []; len = 0 };
  spec = record { dimension = 0; metric = Euclidean; shards = 0; replication = 0 };
}

module _ (t : Collections) (row : ShardRow) where
  abbrev name : Name
  name = view_name row.key.collection

  -- the collection's metric, by its place in the table
  module _ (le : t.count ≤ length t.items) (c : ℕ) (is : c ≡ first_at (show.named name) (view_collections t))
      (m : tables.Map) (e : m.collections ≡ view_collections t) where
    pub metric_none : t.count ≤ c → show.collection_metric m name ≡ none
    metric_none h =
        ap (λ (l : List tables.Collection). show.metric_of (find (show.named name) l)) e
        ∙ ap show.metric_of (missed view_collection t.items t.count le (show.named name) c is h)

    pub metric_some : (d : CollectionRow) → c < t.count → show.collection_metric m name ≡ some (get_or t.items c d).spec.metric
    metric_some d h =
        ap (λ (l : List tables.Collection). show.metric_of (find (show.named name) l)) e
        ∙ ap show.metric_of (found view_collection t.items t.count le (show.named name) c is d h)
