use mathlib.Core.Path.{◌≡◌}
use mathlib.Core.List.{◌++◌, map}
use Prim.Native.Nat.{◌≤◌}
use lib.ListN.{length, take, drop}
use Rattle.log_select.specs.Written.{id_of, distance_of}
use Rattle.log_select.proofs.write.write_hits.Given as goal

abbrev pub invariant-loop-i : goal.invariant-loop-i
invariant-loop-i l =
    (l.i ≤ l.n) × (length l.found ≡ length l.initial.found) × (length l.distances ≡ length l.initial.distances)
    × (l.found ≡ map id_of (take l.i l.h.items) ++ drop l.i l.initial.found) × (l.distances ≡ map distance_of (take l.i l.h.items) ++ drop l.i l.initial.distances)
