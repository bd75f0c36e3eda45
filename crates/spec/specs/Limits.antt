-- Paper 01: every limit, named once. Definitions only.
use Rattle.std.specs.Prelude.{ℕ, ◌^◌, ◌-◌}

-- 'Nearest objects': the components of a vector or a query, at most (and at least 1)
abbrev pub max_components : ℕ
max_components = 32

-- 'The log': entries of a log, at most
abbrev pub max_entries : ℕ
max_entries = 1024

-- 'Who is turned down': a lent float store has at least so many floats, 32 for each entry
abbrev pub min_floats : ℕ
min_floats = 32768

-- 'The shard map': nodes, collections, shards, replicas of a shard, clients
abbrev pub max_nodes : ℕ
max_nodes = 32

-- 'The shard map': 16 collections
abbrev pub max_collections : ℕ
max_collections = 16

-- 'The shard map': 64 shards
abbrev pub max_shards : ℕ
max_shards = 64

-- 'The shard map': 8 replicas a shard
abbrev pub max_replicas : ℕ
max_replicas = 8

-- 'The shard map': 64 clients
abbrev pub max_clients : ℕ
max_clients = 64

-- 'The shard map': bytes of a name and of an address; lists of a placement and nodes of each
abbrev pub max_name : ℕ
max_name = 32

-- 'The shard map': addresses 0 to 64 bytes
abbrev pub max_address : ℕ
max_address = 64

-- 'The shard map': placements have at most 16 lists
abbrev pub max_lists : ℕ
max_lists = 16

-- 'The shard map': lists of at most 8 nodes
abbrev pub max_listed : ℕ
max_listed = 8

-- 'The node': shards of a node, workers of a primary, entries of a worker's step
abbrev pub max_held : ℕ
max_held = 8

-- 'The node': 32 workers a primary
abbrev pub max_workers : ℕ
max_workers = 32

-- 'The node': at most 256 entries a step
abbrev pub max_batch : ℕ
max_batch = 256

-- 'The node': the largest time, in microseconds; also the largest offset that an ack may name
abbrev pub max_time : ℕ
max_time = 4611686018427387904

-- 'The node': where the count of refused calls stops
abbrev pub max_refused : ℕ
max_refused = 4294967295

-- 'Bytes on the wire': pairs of an epoch table, bytes of a Bench
abbrev pub max_table : ℕ
max_table = 1024

-- 'Bytes on the wire', 19: length up to 1,024
abbrev pub max_bench : ℕ
max_bench = 1024

-- the largest u64: an epoch there cannot rise (25)
abbrev pub max_u64 : ℕ
max_u64 = 18446744073709551615
