use Rattle.float_distance.proofs.Halves.{settled-sum, settled-distance}
use Rattle.float_distance.proofs.sums.settle.Goals as goal

pub returns-in-Sums : goal.returns-in-Sums
returns-in-Sums c = settled-sum _ _ _ c.in-Sums.is c.sqrt_f32.ensures

pub returns-in-Distances : goal.returns-in-Distances
returns-in-Distances c = settled-distance _ _ c.in-Distances.is
