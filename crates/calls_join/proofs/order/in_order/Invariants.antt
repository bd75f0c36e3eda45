use mathlib.Core.Path.{◌≡◌}
use Prim.Native.Nat.{◌+◌, ◌-◌, ◌*◌, ◌<◌}
use Rattle.spec_join.specs.Join.{in_order}
use Rattle.calls_join.specs.View.{hits_at}
use Rattle.calls_join.proofs.order.in_order.Given as goal

abbrev pub invariant-loop-i : goal.invariant-loop-i
invariant-loop-i l =
    (0 < l.i) × (in_order (hits_at l.s (l.n - (l.i - 1)) (l.p + 12 * (l.i - 1))) ≡ in_order (hits_at l.s l.n l.p))
