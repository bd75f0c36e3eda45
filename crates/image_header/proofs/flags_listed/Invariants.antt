use mathlib.Core.Path.{◌≡◌}
use Prim.Native.Nat.{◌+◌, ◌-◌, ◌*◌, ◌≤◌}
use Rattle.image_header.specs.Image.{flags_listed}
use Rattle.image_header.proofs.flags_listed.Given as goal

abbrev pub invariant-loop-i : goal.invariant-loop-i
invariant-loop-i l =
    (l.i ≤ l.n) × (flags_listed l.s (l.n - l.i) (48 + 1280 * l.i) ≡ flags_listed l.s l.n 48)
