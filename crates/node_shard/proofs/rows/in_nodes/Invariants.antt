use Rattle.spec.specs.Lists.{any}
use Rattle.spec.specs.Node.Shown.{is_node}
use mathlib.Core.Path.{◌≡◌}
use Prim.Native.Nat.{◌≤◌}
use lib.ListN.{take, drop}
use Rattle.node_shard.proofs.rows.in_nodes.Given as goal

abbrev pub invariant-loop-i : goal.invariant-loop-i
invariant-loop-i l =
    (l.i ≤ l.count) × (any (is_node l.node) (take l.count l.nodes) ≡ any (is_node l.node) (drop l.i (take l.count l.nodes)))
