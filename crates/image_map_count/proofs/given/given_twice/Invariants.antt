use mathlib.Core.Path.{◌≡◌}
use Prim.Native.Nat.{◌≤◌}
use lib.ListN.{take, drop}
use Rattle.spec_count.specs.Counts.{repeats}
use Rattle.image_map_count.proofs.given.given_twice.Given as goal

abbrev pub invariant-loop-i : goal.invariant-loop-i
invariant-loop-i l =
    (l.i ≤ l.ids.count) × (repeats (take l.ids.count l.ids.items) ≡ repeats (drop l.i (take l.ids.count l.ids.items)))
