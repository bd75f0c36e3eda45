use native.Mathlib.Omega.{arith}
use mathlib.Core.Path.{sym, ◌∙◌}
use lib.ListN.{take}
use lib.Seq.{length-take-le}
use Rattle.calls_losses.proofs.Calls.{list-short, answer-short, both_lent}
use Rattle.calls_losses.proofs.answer_rows.Goals as goal

pub returns-then-list-put : goal.returns-then-list-put
returns-then-list-put c =
    let n = length-take-le c.args.put.size c.args.rows.now c.requires in
    list-short (take c.args.put.size c.args.rows.now) c.args.put.rows c.args.list.now c.args.answer.now (omega (arith, n, c.if-list-put.true))

pub returns-then-not-put_number : goal.returns-then-not-put_number
returns-then-not-put_number c =
    let n = length-take-le c.args.put.size c.args.rows.now c.requires in
    answer-short (take c.args.put.size c.args.rows.now) c.args.put.rows c.args.list.now c.args.answer.now (omega (arith, n, c.if-list-put.false)) (sym c.put_number.ensures.0 ∙ c.if-not-put_number.true) _ c.put_number.ensures.1

pub slice_bounds-put_bytes-end : goal.slice_bounds-put_bytes-end
slice_bounds-put_bytes-end c = sym (length-take-le _ _ (omega (arith, c.requires)))

pub put_bytes-requires : goal.put_bytes-requires
put_bytes-requires c =
    let n = length-take-le c.args.put.size c.args.rows.now c.requires in
    omega (arith, n, c.if-list-put.false)

pub returns : goal.returns
returns c =
    let n = length-take-le c.args.put.size c.args.rows.now c.requires in
    both_lent (take c.args.put.size c.args.rows.now) c.args.put.rows c.args.list.now c.args.answer.now (omega (arith, n, c.if-list-put.false)) (sym c.put_number.ensures.0 ∙ c.if-not-put_number.false) _ _ c.put_bytes.ensures c.put_number.ensures.1
