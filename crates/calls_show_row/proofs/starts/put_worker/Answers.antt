use Rattle.image_parts.proofs.Images.{stored-then, stored-word}
use Rattle.spec.specs.Layout.Parts.{metric_code}
use Rattle.calls_header.proofs.Starts.{byte_stored}
use Rattle.calls_show_row.proofs.starts.put_worker.Goals as goal

pub returns : goal.returns
returns c =
    let a = c.args in stored-then (stored-then (stored-then c.put_named.ensures (stored-word 8 a.peer c.put8.ensures)) (stored-word 8 a.epoch c.put8-2.ensures)) (byte_stored _ (metric_code a.metric) c.metric_byte-code.ensures c.put_byte.ensures)
