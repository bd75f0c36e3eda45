use mathlib.Core.Path.{ap}
use lib.Ieee.{Float}
use Rattle.spec.specs.declared.Neighbor.{Neighbor}
use Rattle.float_distance.proofs.sums.neighbor.Goals as goal

pub returns : goal.returns
returns c =
    let named : Float → Neighbor = λ d. record { id = c.args.id; distance = d } in
    ap named c.settle.ensures
