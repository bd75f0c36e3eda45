use mathlib.Core.Path.{◌≡◌}
use Prim.Native.Nat.{ℕ, ◌≤◌}
use lib.ListN.{length}
use Rattle.spec.specs.Layout.Format.{number_at}
use Rattle.image_parts.specs.Codes.{id_of}
use Rattle.image_parts.specs.Shape.{rows_at}
use Rattle.image_parts.proofs.replicas.ids_at.Given as goal

abbrev pub invariant-loop-i : goal.invariant-loop-i
invariant-loop-i l =
    (l.i ≤ 8) × (length l.out ≡ 8) × (l.out ≡ rows_at 8 l.i (λ (p : ℕ). id_of (number_at 8 l.s p)) (id_of 0) 8 l.at)
