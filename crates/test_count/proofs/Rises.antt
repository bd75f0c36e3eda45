-- What Create asks of a map that passed the 24 test: its shards rise by key. Assumes nothing.
use Rattle.std.proofs.Common.{◌≡◌, ℕ, true, List, subst}
use Rattle.spec.specs.Lists.{rising}
use Rattle.spec.specs.Map.Create.{shard_below}
use Rattle.spec.specs.Map.Tables as tables
use Rattle.spec_laws.proofs.Map.WellFormed.{map-parts}
use Rattle.map_tables.specs.View.{view_map}
use Rattle.map_check.proofs.Formed.{lent-formed}
use Rattle.image_map.specs.Image.{map_at}
use Rattle.thm_map_never_malformed.specs.Calls.{Intact}
use Rattle.image_map_put.specs.Few.{Few}
use Rattle.image_map_put.specs.Rows.{read_as}
use Rattle.image_map_put.proofs.Whole.{read_as_lem}

pub shards-rise : (s : List ℕ) → Intact s → Few s → rising shard_below (read_as s).shards ≡ true
shards-rise s i few =
    subst (λ (x : tables.Map). rising shard_below x.shards ≡ true) (read_as_lem s few) (map-parts (view_map (map_at s)) (lent-formed (map_at s) i.formed)).2.1
