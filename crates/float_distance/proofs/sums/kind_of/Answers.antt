use Rattle.float_distance.proofs.Halves.{kind_euclid, kind_angular}
use Rattle.float_distance.proofs.sums.kind_of.Goals as goal

pub returns-in-Euclidean : goal.returns-in-Euclidean
returns-in-Euclidean c = kind_euclid _ c.in-Euclidean.is

pub returns-in-Angular : goal.returns-in-Angular
returns-in-Angular c = kind_angular _ c.in-Angular.is
