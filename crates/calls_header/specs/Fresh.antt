-- What a fresh node promises: every byte of its image, and that the image is read as the specification's new node. Definitions only.
use Rattle.std.specs.Prelude.{ℕ, ◌≤◌, ◌<◌, true, ◌≡◌, List, [], length}
use Rattle.spec.specs.Node.Held as held
use Rattle.std.specs.Prelude.{None}
use Rattle.node_header.specs.declared.Node.{Node}
use Rattle.node_header.specs.Formed.{formed_node}
use Rattle.image_parts.specs.Codes.{id_of}
use Rattle.image_header.specs.Image.{no_node, node_at, header_written}
use Rattle.calls_header.specs.Leaves.{Leaves}

-- no shard, no lease, no map known
abbrev pub fresh_node : (id incarnation : ℕ) → Node
fresh_node id incarnation = record {
  id = id_of id;
  incarnation = incarnation;
  expiry = None;
  version = 0;
  held = no_node.held;
  count = 0;
}

pub record FreshImage (s t : List ℕ) (id incarnation r : ℕ) : Type 0 where
  pub answer : r ≡ 0
  pub image : t ≡ header_written s (fresh_node id incarnation)
  pub leaves : Leaves s t (λ st. held.empty_node id incarnation) (λ st. [])
  pub formed : formed_node (node_at t) ≡ true

-- the image holds s before and t after
pub record Freshens (s t : List ℕ) (id incarnation r : ℕ) : Type 0 where
  pub short : length s < 10288 → (r ≡ 24) × (t ≡ s)
  pub made : 10288 ≤ length s → FreshImage s t id incarnation r
