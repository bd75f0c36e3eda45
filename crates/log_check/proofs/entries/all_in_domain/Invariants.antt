use mathlib.Core.Path.{◌≡◌}
use lib.ListN.{drop}
use Rattle.spec.specs.Lists.{◌and◌, every}
use Rattle.spec.specs.Node.WellFormed.{component}
use Rattle.log_check.proofs.entries.all_in_domain.Given as goal

abbrev pub invariant-loop-x : goal.invariant-loop-x
invariant-loop-x l =
    l.ok and every component (drop l.x-index l.vector) ≡ every component l.vector
