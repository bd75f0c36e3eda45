use Rattle.image_parts.proofs.Images.{stored-then, stored-word}
use Rattle.image_header_form.proofs.front.put_counts.Goals as goal

pub returns : goal.returns
returns c =
    let a = c.args in
    stored-then (stored-then (stored-then (stored-then (stored-then (stored-then (stored-then (stored-word 8 a.slot c.put8.ensures) (stored-word 8 a.stored c.put8-2.ensures)) (stored-word 8 a.epoch c.put8-3.ensures)) (stored-word 8 a.last c.put8-4.ensures)) (stored-word 8 a.holders c.put8-5.ensures)) (stored-word 8 a.count c.put8-6.ensures)) (stored-word 4 a.metric c.put4.ensures)) (stored-word 4 a.own c.put4-2.ensures)
