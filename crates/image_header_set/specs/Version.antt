-- A header with another version. Definitions only.
use Rattle.std.specs.Prelude.{ℕ}
use Rattle.node_header.specs.declared.Node.{Node}

abbrev pub version_set : Node → (version : ℕ) → Node
version_set n version = record {
  id = n.id;
  incarnation = n.incarnation;
  expiry = n.expiry;
  version = version;
  held = n.held;
  count = n.count;
}
