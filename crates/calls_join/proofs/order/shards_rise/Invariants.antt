use mathlib.Core.Path.{◌≡◌}
use Prim.Native.Nat.{◌+◌, ◌-◌, ◌<◌}
use Rattle.spec.specs.Lists.{rising}
use Rattle.spec_join.specs.Join.{shard_below}
use Rattle.calls_join.specs.View.{Stand, answers_at}
use Rattle.calls_join.proofs.order.shards_rise.Given as goal

abbrev pub invariant-loop : goal.invariant-loop
invariant-loop l =
    (0 < l.counter) × Stand l.s (l.n + 1 - l.counter) l.p × (rising shard_below (answers_at l.s (l.n + 1 - l.counter) l.p) ≡ rising shard_below (answers_at l.s l.n 0))
