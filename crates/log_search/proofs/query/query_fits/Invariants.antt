use mathlib.Core.Path.{◌≡◌}
use lib.ListN.{drop}
use Rattle.spec.specs.Lists.{every}
use Rattle.spec.specs.Node.WellFormed.{component, well_formed_vector}
use Rattle.log_search.proofs.query.query_fits.Given as goal

abbrev pub invariant-loop-x : goal.invariant-loop-x
invariant-loop-x l =
    well_formed_vector l.query ≡ every component (drop l.x-index l.query)
