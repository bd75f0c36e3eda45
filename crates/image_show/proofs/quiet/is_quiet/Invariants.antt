use Prim.Native.Nat.{◌-◌, ◌≤◌}
use Rattle.image_header.specs.Image.{node_at}
use Rattle.image_show.proofs.QuietLaws.{Quieting}
use Rattle.image_show.proofs.quiet.is_quiet.Given as goal

abbrev pub invariant-loop-i : goal.invariant-loop-i
invariant-loop-i l =
    (l.i ≤ l.total) × (l.j ≤ l.count) × (Quieting (node_at l.header) l.map l.j l.i)
