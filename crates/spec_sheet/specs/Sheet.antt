-- Paper 02, 2.4: the load sheet, what is printed of a map: how many replica records name each node, how many name a node that the map does not
-- know, and how many there are. Definitions only.
use Rattle.std.specs.Prelude.{ℕ, ◌+◌, Bool, not, List, [], ◌∷◌, map, length}
use Rattle.spec.specs.Lists.{any, filter}
use Rattle.spec.specs.Map.Tables.{NodeInfo, ShardInfo, Map, empty_map}
use Rattle.spec.specs.Map.Create.{is_node}
use Rattle.spec.specs.Map.Place.{replicas_of}
use Rattle.spec.specs.Map.Calls.{requests_in, map_after}
use Rattle.spec.specs.declared.Replica.{Replica}

-- a node's line: its id, and the number of replica records that name it
pub record Loaded : Type 0 where
  pub node : ℕ
  pub count : ℕ

-- 'one line a node by rising id', 'one line for all ids that the map does not know', 'a total'
pub record Sheet : Type 0 where
  pub lines : List Loaded
  pub unknown : ℕ
  pub total : ℕ

-- 'the count of replica records in the map, a node listed twice in a shard counting twice'
unfoldable pub records_in : List ShardInfo → ℕ
records_in [] = 0
records_in (s ∷ ss) = length s.replicas + records_in ss

-- the record's node is no row of the table
unfoldable pub is_unknown : List NodeInfo → Replica → Bool
is_unknown ns r = not (any (is_node r.node.0) ns)

-- the records of a shard whose node the map does not know
unfoldable pub unknown_on : List NodeInfo → List Replica → ℕ
unknown_on ns rs = length (filter (is_unknown ns) rs)

-- the same of all shards
unfoldable pub unknown_in : List NodeInfo → List ShardInfo → ℕ
unknown_in ns [] = 0
unknown_in ns (s ∷ ss) = unknown_on ns s.replicas + unknown_in ns ss

-- a node's line; dead nodes have theirs too
abbrev pub loaded_of : List ShardInfo → NodeInfo → Loaded
loaded_of ss i = record { node = i.node; count = replicas_of i.node ss }

-- the sheet of a map
unfoldable pub sheet_of : Map → Sheet
sheet_of m = record {
  lines = map (loaded_of m.shards) m.nodes;
  unknown = unknown_in m.nodes m.shards;
  total = records_in m.shards;
}

-- 'Program loadsheet': its input as that of applymap, the sheet of the last map
unfoldable pub sheet_for : List ℕ → Sheet
sheet_for bytes = sheet_of (map_after empty_map (requests_in bytes))
