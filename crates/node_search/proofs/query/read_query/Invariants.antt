use mathlib.Core.Path.{◌≡◌}
use Prim.Native.Nat.{◌-◌, ◌≤◌}
use lib.ListN.{length, take, drop}
use Rattle.spec.specs.Lists.{every}
use Rattle.spec.specs.Nearest.Order.{bits_in_domain}
use Rattle.spec.specs.Node.Wire.{floats_of}
use Rattle.log_arrive.specs.Parts.{bits_in}
use Rattle.node_search.proofs.query.read_query.Given as goal

abbrev pub invariant-loop-i : goal.invariant-loop-i
invariant-loop-i l =
    (l.n ≡ l.v.len) × (l.i ≤ l.n) × (length l.out ≡ 32) × (every bits_in_domain (drop l.i (bits_in l.s l.v)) ≡ every bits_in_domain (bits_in l.s l.v)) × (take l.i l.out ≡ take l.i (floats_of (bits_in l.s l.v)))
