use mathlib.Core.Path.{◌≡◌}
use Prim.Native.Nat.{◌≤◌}
use lib.ListN.{length, take}
use Rattle.log_arrive.specs.Parts.{bits_in}
use Rattle.log_arrive.proofs.ops.read_bits.Given as goal

abbrev pub invariant-loop-i : goal.invariant-loop-i
invariant-loop-i l =
    (l.n ≡ l.v.len) × (l.i ≤ l.n) × (length l.out ≡ length l.initial.out) × (take l.i l.out ≡ take l.i (bits_in l.s l.v))
