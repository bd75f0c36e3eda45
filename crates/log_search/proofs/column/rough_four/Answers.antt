use mathlib.Core.Path.{◌∙◌}
use Rattle.log_search.proofs.Settled.{rough-made, rough_euclid, rough_angular}
use Rattle.log_search.proofs.column.rough_four.Goals as goal

pub returns-in-Euclidean : goal.returns-in-Euclidean
returns-in-Euclidean c =
    let e = c.in-Euclidean.is in
    let f = c.squares_four.ensures in
    record {
      first = rough-made _ _ _ _ _ e (f.first ∙ rough_euclid _ _);
      second = rough-made _ _ _ _ _ e (f.second ∙ rough_euclid _ _);
      third = rough-made _ _ _ _ _ e (f.third ∙ rough_euclid _ _);
      fourth = rough-made _ _ _ _ _ e (f.fourth ∙ rough_euclid _ _);
    }

pub returns-in-Angular : goal.returns-in-Angular
returns-in-Angular c =
    let e = c.in-Angular.is in
    let f = c.distances_four.ensures in
    record {
      first = rough-made _ _ _ _ _ e (f.first.value ∙ rough_angular _ _);
      second = rough-made _ _ _ _ _ e (f.second.value ∙ rough_angular _ _);
      third = rough-made _ _ _ _ _ e (f.third.value ∙ rough_angular _ _);
      fourth = rough-made _ _ _ _ _ e (f.fourth.value ∙ rough_angular _ _);
    }
