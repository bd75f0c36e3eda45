use mathlib.Core.Path.{◌≡◌}
use Prim.Native.Nat.{◌+◌, ◌-◌, ◌*◌}
use Rattle.calls_join.specs.View.{hits_at}
use Rattle.calls_join.specs.Owners.{own_hits}
use Rattle.calls_join.proofs.owners.owns.Given as goal

abbrev pub invariant-loop-i : goal.invariant-loop-i
invariant-loop-i l =
    own_hits l.shards l.shard (hits_at l.s (l.n - l.i) (l.p + 12 * l.i)) ≡ own_hits l.shards l.shard (hits_at l.s l.n l.p)
