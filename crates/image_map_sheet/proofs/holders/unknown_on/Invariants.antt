use mathlib.Core.Path.{◌≡◌}
use Prim.Native.Nat.{◌+◌, ◌-◌, ◌≤◌}
use lib.ListN.{length, take, drop}
use Rattle.spec.specs.Lists.{filter}
use Rattle.spec_sheet.specs.Sheet.{is_unknown}
use Rattle.map_tables.specs.View.{view_nodes}
use Rattle.image_parts.specs.Parts.{replicas_at}
use Rattle.image_map.specs.Image.{nodes_at}
use Rattle.image_map_sheet.proofs.holders.unknown_on.Given as goal

abbrev pub invariant-loop-i : goal.invariant-loop-i
invariant-loop-i l =
    (l.i ≤ l.held) × (l.n ≤ l.i) × (length (filter (is_unknown (view_nodes (nodes_at l.s))) (take l.held (replicas_at l.s l.at))) ≡ l.n + length (filter (is_unknown (view_nodes (nodes_at l.s))) (drop l.i (take l.held (replicas_at l.s l.at)))))
