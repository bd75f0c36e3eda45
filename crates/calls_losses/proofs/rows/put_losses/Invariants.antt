use mathlib.Core.Path.{◌≡◌}
use Prim.Native.Nat.{◌-◌, ◌*◌, ◌≤◌}
use lib.ListN.{length}
use Rattle.map_tables.specs.View.{view_spec}
use Rattle.map_place.specs.Read.{view_loads}
use Rattle.calls_losses.proofs.RowLaws.{Walked}
use Rattle.calls_losses.proofs.rows.put_losses.Given as goal

abbrev pub invariant-loop-i : goal.invariant-loop-i
invariant-loop-i l =
    (l.i ≤ l.loads.count) × (length l.out ≡ length l.initial.out) × (l.at ≤ 1040 * l.i) × (l.rows ≤ l.i) × Walked (view_spec l.spec) (view_loads l.loads) l.initial.out l.out l.at l.rows l.i
