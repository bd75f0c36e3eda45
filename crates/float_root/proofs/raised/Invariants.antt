use Rattle.std.proofs.Common.{◌-◌, ◌^◌, ◌<◌}
use Rattle.float_root.proofs.raised.Given as goal

abbrev pub invariant-loop-r : goal.invariant-loop-r
invariant-loop-r l =
    l.r < 2 ^ 26

abbrev pub decreases-loop-r : goal.decreases-loop-r
decreases-loop-r l =
    l.n - l.r
