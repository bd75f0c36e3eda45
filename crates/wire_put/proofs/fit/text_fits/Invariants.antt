use Prim.Native.Nat.{◌≤◌}
use mathlib.Core.Path.{◌≡◌}
use lib.ListN.{length, drop}
use Rattle.spec.specs.Layout.Format.{in_range}
use Rattle.wire_put.proofs.fit.text_fits.Given as goal

abbrev pub invariant-loop-x : goal.invariant-loop-x
invariant-loop-x l =
    (length l.v ≤ l.c) × (in_range 0x20 0x7E l.v ≡ in_range 0x20 0x7E (drop l.x-index l.v))
