use native.Mathlib.Omega.{arith}
use Rattle.calls_show_walk.proofs.row.put_before.Goals as goal

pub returns-then-at-held : goal.returns-then-at-held
returns-then-at-held c =
    record { outside = c.copy_row.ensures.outside; old = λ h. c.copy_row.ensures.row; new = λ h. absurd (let t = c.if-at-held.true in omega arith) }

pub returns : goal.returns
returns c =
    record { outside = c.set_begun.ensures.outside; old = λ h. absurd (let t = c.if-at-held.false in omega arith); new = λ h. c.set_begun.ensures.row }
