use mathlib.Core.Path.{◌≡◌}
use lib.ListN.{drop}
use Rattle.spec.specs.Lists.{◌and◌, every}
use Rattle.spec.specs.Nearest.Order.{bits_in_domain}
use Rattle.log_domain.specs.Parts.{bits_in}
use Rattle.log_domain.proofs.domain.vector_in_domain.Given as goal

abbrev pub invariant-loop-i : goal.invariant-loop-i
invariant-loop-i l =
    (l.n ≡ l.v.len) × (l.ok and every bits_in_domain (drop l.i (bits_in l.s l.v)) ≡ every bits_in_domain (bits_in l.s l.v))
