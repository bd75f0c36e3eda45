-- The two images of a node that a host owns (docs/IMAGES.md), as the engine leaves them. Definitions only.
use Rattle.std.specs.Prelude.{ℕ, ◌≤◌, ◌≡◌, true, List, length}
use Rattle.spec.specs.Lists.{every}
use Rattle.node_header.specs.View.{used}
use Rattle.node_header.specs.Formed.{formed_node}
use Rattle.image_header.specs.Image.{header_lent, node_at}
use Rattle.image_node.specs.Lent.{stores_size}
use Rattle.image_node.specs.State.{held_row_image}

-- 'Who is turned down', 24, of the header h and of all eight stores s: the header is one and passes its test, the stores have their size, and
-- that of every held shard passes its own test, with as many entries and rows as the header counts
pub record Intact (h s : List ℕ) : Type 0 where
  pub lent : header_lent h ≡ true
  pub formed : formed_node (node_at h) ≡ true
  pub size : stores_size ≤ length s
  pub stores : every (held_row_image s) (used (node_at h)) ≡ true
