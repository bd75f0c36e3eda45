use Rattle.float_distance.proofs.Halves.{element_euclid, element_angular}
use Rattle.float_distance.proofs.sums.element.Goals as goal

pub returns-in-Euclidean : goal.returns-in-Euclidean
returns-in-Euclidean c = element_euclid _ _ _ _ _ c.in-Euclidean.is c.squares.ensures

pub returns-in-Angular : goal.returns-in-Angular
returns-in-Angular c =
    element_angular _ _ _ _ _ _ _ c.in-Angular.is c.dot.ensures c.dot-in-Angular.ensures
    c.angle.ensures
