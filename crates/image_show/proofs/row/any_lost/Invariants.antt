use mathlib.Core.Path.{◌≡◌}
use Prim.Native.Nat.{◌-◌, ◌≤◌}
use lib.ListN.{take, drop}
use Rattle.spec.specs.Lists.{any}
use Rattle.image_header_row.specs.Rows.{peers_at}
use Rattle.image_show.specs.Quiet.{lost}
use Rattle.image_show.proofs.row.any_lost.Given as goal

abbrev pub invariant-loop-i : goal.invariant-loop-i
invariant-loop-i l =
    (l.i ≤ l.count) × (any (lost (take l.holders l.replicas)) (take l.count (peers_at l.s l.at)) ≡ any (lost (take l.holders l.replicas)) (drop l.i (take l.count (peers_at l.s l.at))))
