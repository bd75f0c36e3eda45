use mathlib.Core.Path.{◌≡◌}
use Prim.Native.Nat.{◌-◌, ◌≤◌}
use lib.ListN.{take, drop}
use Rattle.spec.specs.Lists.{rising}
use Rattle.spec.specs.Node.Shards.{row_below}
use Rattle.image_header_row.specs.Rows.{peers_at}
use Rattle.image_header_check.proofs.formed.rows_rise.Given as goal

abbrev pub invariant-loop-i : goal.invariant-loop-i
invariant-loop-i l =
    (1 ≤ l.i) × (l.i ≤ l.count) × (rising row_below (take l.count (peers_at l.s l.at)) ≡ rising row_below (drop (l.i - 1) (take l.count (peers_at l.s l.at))))
