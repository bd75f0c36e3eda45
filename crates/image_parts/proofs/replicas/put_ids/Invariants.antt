use mathlib.Core.Path.{◌≡◌}
use Prim.Native.Nat.{◌+◌, ◌*◌, ◌≤◌}
use lib.ListN.{length, drop}
use lib.Seq.{sets}
use Rattle.spec.specs.Layout.Format.{concat_map}
use Rattle.image_parts.specs.Parts.{id_bytes}
use Rattle.image_parts.proofs.replicas.put_ids.Given as goal

abbrev pub invariant-loop-i : goal.invariant-loop-i
invariant-loop-i l =
    (l.i ≤ 8) × (length l.out ≡ length l.initial.out) × (sets l.out (l.at + 8 * l.i) (concat_map id_bytes (drop l.i l.ids)) ≡ sets l.initial.out l.at (concat_map id_bytes l.ids))
