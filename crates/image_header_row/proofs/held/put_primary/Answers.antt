use Rattle.image_parts.proofs.Images.{stored-then, stored-word}
use Rattle.image_header_row.proofs.held.put_primary.Goals as goal

pub returns : goal.returns
returns c =
    stored-then (stored-then (stored-word 4 c.args.code c.put4.ensures) (stored-word 8 c.args.epoch c.put8.ensures)) (stored-word 8 c.args.end c.put8-2.ensures)
