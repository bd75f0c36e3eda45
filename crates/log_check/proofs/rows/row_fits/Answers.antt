use Rattle.log_check.proofs.Walking.{row_zero, row-far, row_other, row_delete, row-top, row_next}
use Rattle.log_check.proofs.rows.row_fits.Goals as goal

pub returns-then-p-eq0 : goal.returns-then-p-eq0
returns-then-p-eq0 c = row_zero _ _ _ _ _ _ c.if-p-eq0.true

pub returns-then-count-p : goal.returns-then-count-p
returns-then-count-p c = row-far _ _ _ _ _ _ c.if-count-p.true

pub returns-then-ids-i : goal.returns-then-ids-i
returns-then-ids-i c = row_other _ _ _ _ _ _ c.if-ids-i.true

pub returns-then-codes-i-ne1 : goal.returns-then-codes-i-ne1
returns-then-codes-i-ne1 c = row_delete _ _ _ _ _ _ c.if-codes-i-ne1.true

pub returns-then-j-eq0 : goal.returns-then-j-eq0
returns-then-j-eq0 c =
    row-top _ _ _ _ _ _ c.if-p-eq0.false c.if-count-p.false c.if-ids-i.false c.if-codes-i-ne1.false c.if-j-eq0.true

pub returns : goal.returns
returns c =
    row_next _ _ _ _ _ _ c.if-p-eq0.false c.if-count-p.false c.if-ids-i.false c.if-codes-i-ne1.false c.if-j-eq0.false
