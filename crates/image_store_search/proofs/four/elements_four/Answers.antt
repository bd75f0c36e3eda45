use Rattle.image_store_search.proofs.FourLaws.{squares_elements, angular}
use Rattle.image_store_search.proofs.four.elements_four.Goals as goal

pub returns-in-Euclidean : goal.returns-in-Euclidean
returns-in-Euclidean c =
    let a = c.args in squares_elements a.metric a.query.now a.qnorm a.s.now a.p a.q a.r a.t a.n _ c.in-Euclidean.is c.squares_four.ensures

pub returns-in-Angular : goal.returns-in-Angular
returns-in-Angular c =
    let a = c.args in let k = c.in-Angular.is in let l = c.products_four-f.ensures in record {
      first = angular a.metric a.query.now a.qnorm a.s.now a.p a.n _ _ _ k l.0.first l.1.first c.angle.ensures;
      second = angular a.metric a.query.now a.qnorm a.s.now a.q a.n _ _ _ k l.0.second l.1.second c.angle-in-Angular.ensures;
      third = angular a.metric a.query.now a.qnorm a.s.now a.r a.n _ _ _ k l.0.third l.1.third c.angle-in-Angular-2.ensures;
      fourth = angular a.metric a.query.now a.qnorm a.s.now a.t a.n _ _ _ k l.0.fourth l.1.fourth c.angle-in-Angular-3.ensures;
    }
