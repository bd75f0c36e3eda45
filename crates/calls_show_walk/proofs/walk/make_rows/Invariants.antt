use Rattle.image_header.specs.Image.{node_at}
use Rattle.calls_show_walk.proofs.WalkLaws.{Going}
use Rattle.calls_show_walk.proofs.walk.make_rows.Given as goal

abbrev pub invariant-loop-i : goal.invariant-loop-i
invariant-loop-i l =
    Going (node_at l.header) l.map l.initial.rows l.initial.workers l.rows l.workers l.count l.many l.i
