use Rattle.image_parts.proofs.Images.{stored-then, stored-word}
use Rattle.calls_map.proofs.Empty.{no_rows}
use Rattle.calls_map.proofs.put_empty.Goals as goal

pub returns : goal.returns
returns c =
    no_rows c.args.map.now _
    (stored-then (stored-then (stored-then (stored-then (stored-word 8 0 c.put8.ensures) (stored-word 8 0 c.put8-2.ensures)) (stored-word 8 0 c.put8-3.ensures)) (stored-word 8 0 c.put8-4.ensures)) (stored-word 8 0 c.put8-5.ensures))
