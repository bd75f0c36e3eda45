-- What ends the walk over a placement. Definitions only.
use Prim.Native.Nat.{ℕ}
use mathlib.Core.Bool.{Bool, not}
use mathlib.Core.List.{List}
use Rattle.spec.specs.Map.Create.{node_at, is_alive}
use Rattle.image_map_put.specs.Rows.{read_as}

-- a node that ends the walk
abbrev pub ends : List ℕ → ℕ → Bool
ends s n = not (is_alive (node_at (read_as s).nodes n))
