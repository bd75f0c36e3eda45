use mathlib.Core.Path.{◌≡◌}
use Prim.Native.Nat.{◌+◌, ◌-◌, ◌*◌, ◌≤◌}
use lib.ListN.{drop}
use Rattle.spec_sheet.specs.Sheet.{records_in}
use Rattle.map_tables.specs.View.{view_shards}
use Rattle.image_map.specs.Image.{shards_at}
use Rattle.image_map_sheet.proofs.shards.records_in.Given as goal

abbrev pub invariant-loop-i : goal.invariant-loop-i
invariant-loop-i l =
    (l.i ≤ l.shards) × (l.n ≤ 8 * l.i) × (records_in (view_shards (shards_at l.s)) ≡ l.n + records_in (drop l.i (view_shards (shards_at l.s))))
