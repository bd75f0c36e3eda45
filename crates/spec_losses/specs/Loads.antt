-- What place knows of a map: its live nodes with their loads. Definitions only.
use Rattle.std.specs.Prelude.{ℕ, not, List}
use Rattle.spec.specs.Lists.{filter}
use Rattle.spec.specs.Map.Tables.{Map}
use Rattle.spec.specs.Map.Place.{Load, is_load, loads_of}

-- the loads of the live nodes
abbrev pub live_loads : Map → List Load
live_loads m = loads_of (λ i. i.alive) m

-- the loads of all nodes but one
abbrev pub without_load : ℕ → List Load → List Load
without_load n l = filter (λ (x : Load). not (is_load n x)) l
