use mathlib.Core.Path.{◌≡◌}
use Prim.Native.Nat.{◌+◌, ◌≤◌}
use Rattle.log_store.specs.Table.{Tabled, rows_played}
use Rattle.image_store.specs.Read.{codes_in}
use Rattle.image_store_check.specs.Test.{offsets_in, ids_in}
use Rattle.image_store_table.proofs.played.Given as goal

abbrev pub invariant-loop-i : goal.invariant-loop-i
invariant-loop-i l =
    (l.offsets ≡ l.base + 8192) × (l.ids ≡ l.base + 16384) × (l.codes ≡ l.base + 24576) × (l.i ≤ l.count) × (l.n ≤ l.i) × Tabled l.i l.initial.keys l.initial.places l.keys l.places l.n (rows_played (offsets_in l.stores l.base) (ids_in l.stores l.base) (codes_in l.stores l.base) l.i)
