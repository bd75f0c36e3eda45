use mathlib.Core.Path.{◌≡◌}
use Prim.Native.Nat.{◌-◌}
use Rattle.spec_join.specs.Join.{owned}
use Rattle.calls_join.specs.View.{Stand, answers_at}
use Rattle.calls_join.proofs.owners.all_owned.Given as goal

abbrev pub invariant-loop : goal.invariant-loop
invariant-loop l =
    Stand l.s (l.n - l.counter) l.p × (owned l.shards (answers_at l.s (l.n - l.counter) l.p) ≡ owned l.shards (answers_at l.s l.n 0))
