use native.Mathlib.Omega.{arith}
use mathlib.Core.Path.{sym, ◌∙◌}
use borrow.Author.Tests.{ne_eqb}
use Rattle.std.proofs.lemmas.Result.{err_from_is_err_and}
use Rattle.image_header_row.specs.Rows.{held_row_at}
use Rattle.calls_show_row.specs.Row.{Needs}
use Rattle.calls_show_walk.proofs.Told.{told-some, told_none}
use Rattle.calls_show_walk.proofs.row.show_put.Goals as goal

pub returns-in_err-more : goal.returns-in_err-more
returns-in_err-more c =
    let a = c.args in
    let p = err_from_is_err_and c.from_residual.result c.from_residual.ensures.1 in
    let n = told_none (Needs (held_row_at a.rows.now a.to) a.me a.row) _ _ _ c.workers_of.ensures (sym c.ok_or.ensures.value ∙ c.in_err-more.was) in
    rw p.1 (λ st. n.full st a.metric)

pub put_workers-requires : goal.put_workers-requires
put_workers-requires c =
    let a = c.args in
    let t = told-some (Needs (held_row_at a.rows.now a.to) a.me a.row) _ _ _ c.workers_of.ensures (sym c.ok_or.ensures.value ∙ c.in_ok-more.was) in
    let le = t.0 in let n = t.1 in let m = c.requires.1 in let l = c.requires.2 in
    (c.requires.0, record { few = λ st m. n.full st m ∙ ne_eqb _ 33 (λ z. omega arith) }, record { low = omega arith; room = λ st. let e = n.start le st c.args.metric in omega arith })

pub show_row-requires : goal.show_row-requires
show_row-requires c =
    let a = c.args in
    let t = told-some (Needs (held_row_at a.rows.now a.to) a.me a.row) _ _ _ c.workers_of.ensures (sym c.ok_or.ensures.value ∙ c.in_ok-more.was) in
    let le = t.0 in
    (c.requires.0, record { few = λ st m. t.1.full st m ∙ ne_eqb _ 33 (λ z. omega arith) })

pub returns : goal.returns
returns c =
    let a = c.args in
    let t = told-some (Needs (held_row_at a.rows.now a.to) a.me a.row) _ _ _ c.workers_of.ensures (sym c.ok_or.ensures.value ∙ c.in_ok-more.was) in
    let le = t.0 in let n = t.1 in
    record { few = record { few = λ st m. n.full st m ∙ ne_eqb _ 33 (λ z. omega arith) }; shows = c.show_row.ensures; stored = c.put_workers.ensures.stored; next = λ st. let e = n.start le st c.args.metric in omega arith; most = c.put_workers.ensures.few }
