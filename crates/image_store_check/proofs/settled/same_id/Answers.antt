use borrow.Author.Tests.{eqb-true, eqb-false}
use Rattle.image_store_check.proofs.Table.{ids-same, ids-other}
use Rattle.image_store_check.proofs.settled.same_id.Goals as goal

pub returns : goal.returns
returns c =
    let a = c.args in let h = c.requires.0 in let g = c.requires.1 in record {
      yes = λ e. ids-same a.s.now a.base a.i a.k h g c.get8-2.result c.get8.result c.get8-2.ensures c.get8.ensures (eqb-true _ _ e);
      nay = λ e. ids-other a.s.now a.base a.i a.k h g c.get8-2.result c.get8.result c.get8-2.ensures c.get8.ensures (eqb-false _ _ e);
    }
