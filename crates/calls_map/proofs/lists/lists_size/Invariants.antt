use mathlib.Core.Path.{◌≡◌}
use Prim.Native.Nat.{◌+◌, ◌*◌, ◌≤◌}
use lib.ListN.{length, drop}
use Rattle.spec.specs.Layout.Format.{concat_map}
use Rattle.calls_map.proofs.ListLaws.{row_bytes, rows_of}
use Rattle.calls_map.proofs.lists.lists_size.Given as goal

abbrev pub invariant-loop-i : goal.invariant-loop-i
invariant-loop-i l =
    (l.i ≤ l.n) × (l.n ≤ 16) × (l.size + length (concat_map row_bytes (drop l.i (rows_of l.p))) ≡ length (concat_map row_bytes (rows_of l.p))) × (l.size ≤ 64 * l.i)
