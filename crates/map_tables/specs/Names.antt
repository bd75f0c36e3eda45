-- How names, addresses and keys are read: the bytes in use, in order. Definitions only.
use Rattle.std.specs.Prelude.{take}
use Rattle.spec.specs.Keys as keys
use Rattle.map_tables.specs.declared.Name.{Name}
use Rattle.map_tables.specs.declared.Address.{Address}
use Rattle.map_tables.specs.declared.ShardKey.{ShardKey}

abbrev pub view_name : Name → keys.Name
view_name n = take n.len n.bytes

abbrev pub view_address : Address → keys.Name
view_address a = take a.len a.bytes

abbrev pub view_key : ShardKey → keys.Key
view_key k = record { collection = view_name k.collection; shard = k.shard }
