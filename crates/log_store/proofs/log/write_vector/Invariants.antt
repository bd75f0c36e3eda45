use mathlib.Core.Path.{◌≡◌}
use Prim.Native.Nat.{◌≤◌}
use lib.ListN.{length, take}
use Rattle.spec.specs.Node.Wire.{floats_of}
use Rattle.log_store.proofs.log.write_vector.Given as goal

abbrev pub invariant-loop-i : goal.invariant-loop-i
invariant-loop-i l =
    (l.i ≤ length l.initial.dst) × (length l.dst ≡ length l.initial.dst) × (take l.i l.dst ≡ take l.i (floats_of l.bits))
