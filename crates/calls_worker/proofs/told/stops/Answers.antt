use mathlib.Core.Path.{sym, ◌∙◌, ap}
use mathlib.Core.Bool.{Bool, cond}
use Rattle.calls_worker.proofs.told.stops.Goals as goal

pub returns-then-put_number : goal.returns-then-put_number
returns-then-put_number c =
    (sym (ap (λ (b : Bool). cond b 1 23) (sym c.put_number.ensures.0 ∙ c.if-put_number.true)), c.put_number.ensures.1)

pub returns : goal.returns
returns c =
    (sym (ap (λ (b : Bool). cond b 1 23) (sym c.put_number.ensures.0 ∙ c.if-put_number.false)), c.put_number.ensures.1)
