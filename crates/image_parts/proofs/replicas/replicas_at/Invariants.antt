use mathlib.Core.Path.{◌≡◌}
use Prim.Native.Nat.{◌≤◌}
use lib.ListN.{length}
use Rattle.image_parts.specs.Shape.{rows_at}
use Rattle.image_parts.specs.Parts.{replica_at, no_replica}
use Rattle.image_parts.proofs.replicas.replicas_at.Given as goal

abbrev pub invariant-loop-i : goal.invariant-loop-i
invariant-loop-i l =
    (l.i ≤ 8) × (length l.out ≡ 8) × (l.out ≡ rows_at 8 l.i (replica_at l.s) no_replica 16 l.at)
