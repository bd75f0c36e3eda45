-- What making a change asks for: that it is taken, by a shard that is well formed. Definitions only.
use Rattle.std.specs.Prelude.{◌≡◌, true}
use Rattle.spec.specs.Map.Change.{decide_change, accepts}
use Rattle.spec.specs.Map.WellFormed.{shard_fits}
use Rattle.map_tables.specs.Counted.{Sized}
use Rattle.map_tables.specs.View.{view_shard, change_of}
use Rattle.map_tables.specs.declared.Change.{Change}
use Rattle.map_tables.specs.declared.ShardRow.{ShardRow}

-- a change that is taken, of a well-formed shard
pub record Takes (s : ShardRow) (c : Change) : Type 0 where
  pub sized : Sized s
  pub fits : shard_fits (view_shard s) ≡ true
  pub taken : decide_change (view_shard s) (change_of c) ≡ accepts
