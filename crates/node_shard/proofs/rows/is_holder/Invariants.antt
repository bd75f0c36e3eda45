use Rattle.spec.specs.Lists.{any}
use Rattle.spec.specs.Node.Shards.{on_node}
use mathlib.Core.Path.{◌≡◌}
use Prim.Native.Nat.{◌≤◌}
use lib.ListN.{take, drop}
use Rattle.node_shard.proofs.rows.is_holder.Given as goal

abbrev pub invariant-loop-i : goal.invariant-loop-i
invariant-loop-i l =
    (l.i ≤ l.count) × (any (on_node l.node) (take l.count l.replicas) ≡ any (on_node l.node) (drop l.i (take l.count l.replicas)))
