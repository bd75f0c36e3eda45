use mathlib.Core.Path.{◌≡◌}
use Prim.Native.Nat.{◌-◌, ◌≤◌}
use lib.ListN.{length}
use Rattle.thm_map_never_malformed.specs.Calls.{Intact}
use Rattle.test_map.proofs.drain.drain.Given as goal

abbrev pub invariant-loop-read : goal.invariant-loop-read
invariant-loop-read l =
    Intact l.map × (l.at ≤ length l.s) × (length l.map ≡ length l.initial.map)

abbrev pub decreases-loop-read : goal.decreases-loop-read
decreases-loop-read l =
    length l.s - l.at
