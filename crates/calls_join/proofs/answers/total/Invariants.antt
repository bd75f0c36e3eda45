use mathlib.Core.Path.{◌≡◌}
use Prim.Native.Nat.{◌+◌, ◌-◌, ◌*◌, ◌≤◌}
use lib.ListN.{length}
use Rattle.spec_join.specs.Join.{all_hits}
use Rattle.calls_join.specs.View.{Stand, answers_at}
use Rattle.calls_join.proofs.answers.total.Given as goal

abbrev pub invariant-loop : goal.invariant-loop
invariant-loop l =
    (l.sum ≤ 1024 * l.counter) × Stand l.s (l.n - l.counter) l.p × (l.sum + length (all_hits (answers_at l.s (l.n - l.counter) l.p)) ≡ length (all_hits (answers_at l.s l.n 0)))
