use mathlib.Core.Path.{◌≡◌}
use Prim.Native.Nat.{◌+◌, ◌*◌, ◌≤◌}
use lib.ListN.{length, drop}
use lib.Seq.{sets}
use Rattle.spec.specs.Layout.Format.{concat_map}
use Rattle.image_parts.specs.Parts.{replica_bytes}
use Rattle.image_parts.proofs.replicas.put_replicas.Given as goal

abbrev pub invariant-loop-i : goal.invariant-loop-i
invariant-loop-i l =
    (l.i ≤ 8) × (length l.out ≡ length l.initial.out) × (sets l.out (l.at + 16 * l.i) (concat_map replica_bytes (drop l.i l.rs)) ≡ sets l.initial.out l.at (concat_map replica_bytes l.rs))
