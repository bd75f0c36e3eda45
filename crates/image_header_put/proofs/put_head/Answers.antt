use Rattle.image_parts.proofs.Images.{stored-then, stored-word}
use Rattle.image_header_put.proofs.put_head.Goals as goal

pub returns : goal.returns
returns c =
    let a = c.args in
    stored-then (stored-then (stored-then (stored-then (stored-then (stored-then (stored-word 8 a.id c.put8.ensures) (stored-word 8 a.incarnation c.put8-2.ensures)) (stored-word 8 a.version c.put8-3.ensures)) (stored-word 8 a.count c.put8-4.ensures)) (stored-word 4 0 c.put4.ensures)) (stored-word 4 a.code c.put4-2.ensures)) (stored-word 8 a.end c.put8-5.ensures)
