-- A map with other sessions, or another version. Definitions only.
use Rattle.std.specs.Prelude.{ℕ, List}
use Rattle.spec.specs.Map.Tables as tables

abbrev pub with_sessions : tables.Map → List tables.Session → tables.Map
with_sessions m l = record { version = m.version; nodes = m.nodes; collections = m.collections; shards = m.shards; sessions = l }

abbrev pub with_version : tables.Map → ℕ → tables.Map
with_version m v = record { version = v; nodes = m.nodes; collections = m.collections; shards = m.shards; sessions = m.sessions }
