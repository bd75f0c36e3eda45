use mathlib.Core.Path.{◌≡◌}
use Prim.Native.Nat.{◌+◌, ◌-◌, ◌*◌, ◌≤◌}
use mathlib.Core.List.{map}
use lib.ListN.{length, drop}
use lib.Seq.{sets}
use Rattle.spec.specs.Layout.Format.{bytes_of, concat_map}
use Rattle.spec.specs.Node.Wire.{bits_of}
use Rattle.node_send_entries.proofs.entry.put_floats.Given as goal

abbrev pub invariant-loop-i : goal.invariant-loop-i
invariant-loop-i l =
    (l.i ≤ length l.v) × (length l.out ≡ length l.initial.out)
    × (sets l.out (l.at + 4 * l.i) (concat_map (bytes_of 4) (drop l.i (map bits_of l.v))) ≡ sets l.initial.out l.at (concat_map (bytes_of 4) (map bits_of l.v)))
