-- The rows that stand for a place past an array's end.
use mathlib.Core.Bool.{false}
use mathlib.Core.List.{[]}
use Rattle.map_tables.specs.declared.NodeRow.{NodeRow}
use Rattle.map_tables.specs.declared.NodeList.{NodeList}
use Rattle.map_tables.specs.declared.ShardRow.{ShardRow}
use Rattle.std.specs.Prelude.{None}
use Rattle.spec.specs.declared.DataNodeId.{DataNodeId}

abbrev pub no_node : NodeRow
no_node = record { node = record { 0 = 0 }; address = record { bytes = []; len = 0 }; incarnation = 0; alive = false }

abbrev pub no_id : DataNodeId
no_id = record { 0 = 0 }

abbrev pub no_list : NodeList
no_list = record { nodes = []; count = 0 }

abbrev pub no_shard : ShardRow
no_shard = record {
  key = record { collection = record { bytes = []; len = 0 }; shard = 0 };
  replicas = record { items = []; count = 0 };
  primary = None;
  insync = record { items = []; count = 0 };
  epoch = record { 0 = 0 };
}
