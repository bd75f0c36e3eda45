use mathlib.Core.Path.{◌≡◌}
use Prim.Native.Nat.{◌+◌, ◌-◌, ◌≤◌}
use mathlib.Core.Bool.{true}
use lib.Seq.{sets}
use Rattle.wire_put.specs.Placed.{lists_fit, lists_size, lists_bytes}
use lib.ListN.{length}
use Rattle.wire_put.proofs.lists.put_lists.Given as goal

abbrev pub invariant-loop-i : goal.invariant-loop-i
invariant-loop-i l =
    (l.i ≤ l.n) × (length l.out ≡ length l.initial.out) × (lists_fit l.counts (l.n - l.i) l.i ≡ true) × (l.p + lists_size l.counts (l.n - l.i) l.i ≡ l.at + lists_size l.counts l.n 0) × (sets l.out l.p (lists_bytes l.counts l.nodes (l.n - l.i) l.i) ≡ sets l.initial.out l.at (lists_bytes l.counts l.nodes l.n 0))
