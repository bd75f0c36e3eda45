use Rattle.std.proofs.lemmas.Result.{err_from_is_err_and}
use Rattle.calls_join.proofs.Calls.{is-short, joins, refused_23, refused_before}
use Rattle.calls_join.proofs.join.Goals as goal

pub returns-in_err-n : goal.returns-in_err-n
returns-in_err-n c =
    let p = err_from_is_err_and c.from_residual.result c.from_residual.ensures.1 in
    rw (p.1, p.2) (refused_before _ _ _ _ _ c.in_err-n.ensures)

pub returns-then-out-m : goal.returns-then-out-m
returns-then-out-m c = refused_23 _ _ _ _ (is-short _ _ _ _ _ c.in_ok-n.ensures _ c.if-out-m.true)

pub returns : goal.returns
returns c = joins _ _ _ _ _ c.in_ok-n.ensures _ _ c.if-out-m.false c.merge.ensures
