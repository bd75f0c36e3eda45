use mathlib.Core.Path.{◌≡◌}
use Prim.Native.Nat.{◌-◌, ◌*◌, ◌≤◌}
use lib.ListN.{length, take}
use mathlib.Core.List.{map}
use Rattle.test_lines.specs.Words.{view_line}
use Rattle.thm_map_never_malformed.specs.Calls.{Intact}
use Rattle.test_input.specs.Stream.{map_in}
use Rattle.test_input.proofs.Going.{Going}
use Rattle.test_input.proofs.drain.drain.Given as goal

abbrev pub invariant-loop-read : goal.invariant-loop-read
invariant-loop-read l =
    Intact l.map × (l.at ≤ length l.s) × (25 * l.n ≤ l.at) × (length l.s ≤ 8192) × (length l.items ≡ 328) × Going l.s (map_in l.initial.map) (map_in l.map) l.at (map view_line (take l.n l.items)) × (length l.map ≡ length l.initial.map)

abbrev pub decreases-loop-read : goal.decreases-loop-read
decreases-loop-read l =
    length l.s - l.at
