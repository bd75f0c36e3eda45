-- What is read of one row of a map. Definitions only.
use Rattle.std.specs.Prelude.{ℕ, Bool, not, eqb}
use Rattle.spec.specs.Lists.{◌and◌}
use Rattle.map_tables.specs.declared.NodeRow.{NodeRow}

-- node.rs, on_map: this incarnation of this node, marked dead
abbrev pub dead_at : (id incarnation : ℕ) → NodeRow → Bool
dead_at id i r = eqb r.node.0 id and eqb r.incarnation i and not r.alive
