use mathlib.Core.Path.{◌≡◌}
use Prim.Native.Nat.{◌+◌, ◌≤◌}
use lib.ListN.{length, drop}
use lib.Seq.{sets}
use Rattle.spec.specs.Layout.Format.{concat_map}
use Rattle.calls_map.proofs.ListLaws.{row_bytes, rows_of}
use Rattle.calls_map.proofs.lists.put_lists.Given as goal

abbrev pub invariant-loop-i : goal.invariant-loop-i
invariant-loop-i l =
    (l.i ≤ l.n) × (l.n ≤ 16) × (length l.out ≡ length l.initial.out) × (l.at + length (concat_map row_bytes (drop l.i (rows_of l.p))) ≡ l.from + length (concat_map row_bytes (rows_of l.p))) × (sets l.out l.at (concat_map row_bytes (drop l.i (rows_of l.p))) ≡ sets l.initial.out l.from (concat_map row_bytes (rows_of l.p)))
