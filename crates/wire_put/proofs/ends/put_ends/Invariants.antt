use Prim.Native.Nat.{◌+◌, ◌*◌, ◌≤◌}
use mathlib.Core.Path.{◌≡◌}
use lib.ListN.{length, drop}
use lib.Seq.{sets}
use Rattle.wire_put.specs.Tables.{table_bytes}
use Rattle.wire_put.proofs.ends.put_ends.Given as goal

abbrev pub invariant-loop-i : goal.invariant-loop-i
invariant-loop-i l =
    (l.i ≤ length l.epochs) × (length l.out ≡ length l.initial.out) × (sets l.out (l.at + 16 * l.i) (table_bytes (drop l.i l.epochs) (drop l.i l.ends)) ≡ sets l.initial.out l.at (table_bytes l.epochs l.ends))
