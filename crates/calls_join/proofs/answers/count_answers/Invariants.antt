use Prim.Native.Nat.{◌-◌, ◌≤◌}
use lib.ListN.{length}
use Rattle.calls_join.specs.View.{Leads}
use Rattle.calls_join.proofs.answers.count_answers.Given as goal

abbrev pub invariant-loop-p : goal.invariant-loop-p
invariant-loop-p l =
    (l.p ≤ length l.s) × Leads l.s l.n 0 l.p

abbrev pub decreases-loop-p : goal.decreases-loop-p
decreases-loop-p l =
    length l.s - l.p
