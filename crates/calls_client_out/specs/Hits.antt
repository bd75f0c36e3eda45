-- Neighbours as a host gets them: an id, 8 bytes, and the bits of a distance, 4 bytes, each. Definitions only.
use Rattle.std.specs.Prelude.{ℕ, List, ◌++◌, Float, get_or}
use Rattle.std.specs.Float.{nan}
use Rattle.spec.specs.Layout.Format.{bytes_of, concat_map}
use Rattle.spec.specs.Node.Wire.{bits_of}
use Rattle.spec.specs.declared.Neighbor.{Neighbor}
use Rattle.log_store.specs.View.{firsts}

abbrev pub hit_bytes : Neighbor → List ℕ
hit_bytes x = bytes_of 8 x.id ++ bytes_of 4 (bits_of x.distance)

-- the neighbour in place i of two columns
abbrev pub hit_at : List ℕ → List Float → ℕ → Neighbor
hit_at is ds i = record { id = get_or is i 0; distance = get_or ds i nan }

-- the first n of them
unfoldable pub hits_bytes : List ℕ → List Float → ℕ → List ℕ
hits_bytes is ds n = concat_map hit_bytes (firsts (hit_at is ds) n)
