use mathlib.Core.Bool.{true, false}
use Rattle.calls_losses.proofs.Calls.{none-put}
use Rattle.calls_losses.proofs.answer_none.Goals as goal

pub returns-then-put_number : goal.returns-then-put_number
returns-then-put_number c =
    none-put c.args.list.now c.args.answer.now _ c.put_number.result true c.put_number.ensures.0 c.if-put_number.true c.put_number.ensures.1

pub returns-else-put_number : goal.returns-else-put_number
returns-else-put_number c =
    none-put c.args.list.now c.args.answer.now _ c.put_number.result false c.put_number.ensures.0 c.if-put_number.false c.put_number.ensures.1
