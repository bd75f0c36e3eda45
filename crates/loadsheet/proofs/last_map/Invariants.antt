use mathlib.Core.Path.{◌≡◌}
use Prim.Native.Nat.{◌≤◌}
use lib.ListN.{length, take}
use Rattle.thm_map_never_malformed.specs.Calls.{Intact}
use Rattle.loadsheet.proofs.last_map.Given as goal

abbrev pub invariant-loop : goal.invariant-loop
invariant-loop g l =
    Intact l.map × (l.n ≤ length l.buf) × (l.n ≡ length (take l.n l.buf)) × (length l.buf ≡ length l.initial.buf) × (length l.initial.buf ≤ 8192) × (length l.map ≡ length l.initial.map)
