use mathlib.Core.Path.{◌≡◌}
use Prim.Native.Nat.{◌*◌, ◌≤◌}
use lib.ListN.{length, take, drop}
use lib.Seq.{sets}
use Rattle.spec.specs.Layout.Format.{concat_map}
use Rattle.calls_header.specs.Waits.{id_bytes}
use Rattle.calls_wait.proofs.ends.put_ids.Given as goal

abbrev pub invariant-loop-i : goal.invariant-loop-i
invariant-loop-i l =
    (l.i ≤ l.n) × (l.n ≤ 32) × (8 * l.n ≤ length l.initial.out) × (length l.out ≡ length l.initial.out) × (sets l.out (8 * l.i) (concat_map id_bytes (drop l.i (take l.count l.ids))) ≡ sets l.initial.out 0 (concat_map id_bytes (take l.count l.ids)))
