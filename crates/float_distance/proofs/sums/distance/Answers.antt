use mathlib.Core.Path.{ap, ◌∙◌}
use lib.Ieee.{Float}
use Rattle.spec.specs.declared.Neighbor.{Neighbor}
use Rattle.float_distance.specs.declared.sums.Kind.{Kind}
use Rattle.float_distance.specs.Halves.{kind_of, settled}
use Rattle.float_distance.proofs.Halves.{halves}
use Rattle.float_distance.proofs.sums.distance.Goals as goal

pub returns : goal.returns
returns c =
    let g = c.args in
    let named : Float → Neighbor = λ d. record { id = g.id; distance = d } in
    c.neighbor.ensures
    ∙ ap (λ (k : Kind). named (settled k c.element.result)) c.kind_of.ensures
    ∙ ap (λ (x : Float). named (settled (kind_of g.metric) x)) c.element.ensures
    ∙ ap named (halves g.metric g.query.now g.qnorm g.vector.now)
