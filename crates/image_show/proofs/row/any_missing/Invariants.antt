use mathlib.Core.Path.{◌≡◌}
use mathlib.Core.List.{[]}
use Prim.Native.Nat.{◌-◌, ◌≤◌}
use lib.ListN.{take, drop}
use Rattle.spec.specs.Node.Shown.{with_rows}
use Rattle.image_header_row.specs.Rows.{peers_at}
use Rattle.image_show.proofs.row.any_missing.Given as goal

abbrev pub invariant-loop-i : goal.invariant-loop-i
invariant-loop-i l =
    (l.i ≤ l.holders) × (with_rows l.me [] (drop l.i (take l.holders l.replicas)) (take l.count (peers_at l.s l.at)) ≡ with_rows l.me [] (take l.holders l.replicas) (take l.count (peers_at l.s l.at)))
