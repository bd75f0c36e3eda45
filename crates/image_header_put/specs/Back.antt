-- A header with another end of its lease. Definitions only.
use Rattle.std.specs.Prelude.{ℕ, ◌≡◌}
use Rattle.node_header.specs.declared.Node.{Node}
use Rattle.image_header_row.specs.Rows.{expiry_of, expiry_code, expiry_time}

abbrev pub with_end : Node → (code end : ℕ) → Node
with_end n code end = record {
  id = n.id;
  incarnation = n.incarnation;
  expiry = expiry_of code end;
  version = n.version;
  held = n.held;
  count = n.count;
}

-- a code and a time as they are written: 0 and 0, or 1 and a time
abbrev pub EndOf : (code end : ℕ) → Type 0
EndOf code end = (expiry_code (expiry_of code end) ≡ code) × (expiry_time (expiry_of code end) ≡ end)
