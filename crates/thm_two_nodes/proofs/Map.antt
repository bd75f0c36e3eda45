-- The map's image: it lends a well-formed map, and is read as one that Create leaves, of one shard that nodes 1 and 2 hold. Assumes nothing.
use Prim.Native.Nat.{ℕ, ◌<◌}
use native.Mathlib.Omega.{arith}
use mathlib.Core.Path.{◌≡◌, refl, sym, subst}
use mathlib.Core.Bool.{true, false}
use mathlib.Core.List.{List, [], ◌∷◌}
use borrow.Author.Tests.{ne_eqb}
use Rattle.spec.specs.Lists.{any}
use Rattle.spec.specs.Map.Tables.{Map, NodeInfo}
use Rattle.spec.specs.Map.Change.{holds}
use Rattle.spec.specs.declared.Replica.{Replica}
use Rattle.spec.specs.declared.Metric.TheVariants.{Euclidean}
use Rattle.spec_run.specs.Fresh.{Created}
use Rattle.spec_run.proofs.Cases.Opened.{opened}
use Rattle.spec_run.proofs.Cases.Start.{info}
use Rattle.map_tables.specs.View.{view_map}
use Rattle.map_check.specs.Lent.{table_counted, counted, well_formed_lent}
use Rattle.image_parts.specs.Shape as shape
use Rattle.image_map_row.specs.Rows as rows
use Rattle.image_map.specs.Image as image
use Rattle.image_map.specs.Image.{map_at, map_lent}
use Rattle.thm_two_nodes.specs.Images.{unused_rows, map_bytes}

abbrev pub copies : List Replica
copies = record { node = record { 0 = 1 }; incarnation = 4 } ∷ record { node = record { 0 = 2 }; incarnation = 4 } ∷ []

abbrev alive : ℕ → NodeInfo
alive n = record { node = n; address = []; incarnation = 4; alive = true }

-- what it is read as
abbrev pub map : Map
map = record {
  version = 3;
  nodes = alive 1 ∷ alive 2 ∷ [];
  collections = record { name = 0x73 ∷ []; spec = record { dimension = 1; metric = Euclidean; shards = 1; replication = 2 } } ∷ [];
  shards = info ∷ [];
  sessions = [];
}

pub map_read : view_map (map_at map_bytes) ≡ map
unfolding map_bytes map_at shape.rows_at rows.node_at rows.collection_at rows.shard_at rows.session_at
map_read = refl

pub map-lent : map_lent map_bytes ≡ true
unfolding opened unused_rows map_bytes map_lent image.codes_listed
map-lent = refl

pub tested : well_formed_lent (map_at map_bytes) ≡ true
unfolding opened map_bytes map_at shape.rows_at rows.node_at rows.collection_at rows.shard_at rows.session_at well_formed_lent counted table_counted
tested = refl

is-created : Created map info
unfolding opened
is-created = record {
  well_formed = refl;
  only = refl;
  key = ((omega arith, refl), omega arith);
  metric = (Euclidean, refl);
  distinct = (refl, (refl, tt));
  live = ((alive 1, refl, refl, refl), omega arith, ((alive 2, refl, refl, refl), omega arith, tt));
  first = (_, refl, refl);
  everyone = λ n. refl;
  epoch = refl;
}

pub begins : Created (view_map (map_at map_bytes)) info
begins = subst (λ (m : Map). Created m info) (sym map_read) is-created

-- nobody else holds it
pub none_zero : holds 0 copies ≡ false
unfolding holds any
none_zero = refl

pub none_above : (n : ℕ) → 2 < n → holds n copies ≡ false
unfolding holds any
none_above n h = rw (ne_eqb 1 n (λ q. absurd (omega arith)), ne_eqb 2 n (λ q. absurd (omega arith)))
