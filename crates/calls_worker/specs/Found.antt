-- The request of a worker's step at the shard that was found, of the bytes. Definitions only.
use Rattle.std.specs.Prelude.{ℕ, List, get_or}
use Rattle.std.proofs.Math.Option.{Option}
use Rattle.spec.specs.Keys.{Key}
use Rattle.spec.specs.Node.Worker.{Message}
use Rattle.spec.specs.declared.Metric.{Metric}
use Rattle.node_log_write.specs.Writes.{view_stored}
use Rattle.node_header.specs.View.{no_held_row}
use Rattle.node_send.specs.Requested.{request_on}
use Rattle.node_lent.specs.Lend.{store_of}
use Rattle.image_header.specs.Image.{node_at}
use Rattle.image_node.specs.Lent.{lent_store_at}

-- internal: h and s the images of the header and of the stores, `at` the place of the shard of the key
abbrev pub request_at : (h s : List ℕ) → Key → (at epoch peer : ℕ) → Metric → Option Message
request_at h s k at epoch peer metric =
    let x = get_or (node_at h).held at no_held_row in
    request_on epoch peer metric (view_stored k x.held (store_of (lent_store_at s x) x))
