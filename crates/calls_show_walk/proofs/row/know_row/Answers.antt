use native.Mathlib.Omega.{arith}
use Rattle.image_header.specs.Image.{node_at}
use Rattle.calls_show_walk.proofs.RowLaws.{ninth_known, know_ready, know_taken}
use Rattle.std.specs.Prelude.{Ok, Err}
use Rattle.std.proofs.lemmas.Result.{err_from_is_err_and}
use Rattle.calls_show_walk.proofs.row.know_row.Goals as goal

pub returns-then-count-ge-HELD : goal.returns-then-count-ge-HELD
returns-then-count-ge-HELD c =
    let a = c.args in λ t has. ninth_known (node_at a.header.now) t a.row a.metric has a.count c.if-count-ge-HELD.true

pub show_put-requires : goal.show_put-requires
show_put-requires c =
    let a = c.args in let lt = c.if-count-ge-HELD.false in let w = c.requires.4 in let m = c.requires.6 in
    (know_ready a.header.now a.held c.requires.0 c.requires.1 a.row a.at c.requires.2 _ _ _ a.metric c.put_before.ensures (omega arith) c.requires.3, omega arith, c.requires.5)

pub returns-in_err-after : goal.returns-in_err-after
returns-in_err-after c =
    let a = c.args in
    let p = err_from_is_err_and c.from_residual.result c.from_residual.ensures.1 in
    λ t has. rw p.1 (know_taken a.header.now a.held c.requires.0 c.requires.1 a.row a.at c.requires.2 _ c.get8-me.ensures t a.metric has a.rows.now c.put_before.new.rows c.show_put.new.rows a.workers.now c.show_put.new.workers a.count a.many c.if-count-ge-HELD.false c.put_before.ensures (Err _) c.in_err-after.ensures)

pub returns : goal.returns
returns c =
    let a = c.args in λ t has. know_taken a.header.now a.held c.requires.0 c.requires.1 a.row a.at c.requires.2 _ c.get8-me.ensures t a.metric has _ _ _ _ _ a.count a.many c.if-count-ge-HELD.false c.put_before.ensures (Ok _) c.in_ok-after.ensures
