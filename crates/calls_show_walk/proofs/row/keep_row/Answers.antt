use native.Mathlib.Omega.{arith}
use mathlib.Core.Path.{ap}
use Rattle.image_header.specs.Image.{node_at}
use Rattle.image_header_set.proofs.Place.{in_array, place_in, place_out}
use Rattle.calls_show_walk.proofs.RowLaws.{skipped, ninth_kept, ready, few-at, keep_taken}
use Rattle.node_header.specs.declared.HeldRow.{HeldRow}
use Rattle.calls_show_walk.proofs.row.keep_row.Goals as goal

pub returns-then-held-at : goal.returns-then-held-at
returns-then-held-at c =
    let a = c.args in λ t lacks p. skipped (node_at a.header.now) t a.row (in_array a.header.now a.held c.requires.0) a.at c.requires.2 lacks (place_out a.header.now a.held c.requires.0 a.at c.if-held-at.true) _ p

pub returns-then-count-ge-HELD : goal.returns-then-count-ge-HELD
returns-then-count-ge-HELD c =
    let a = c.args in λ t lacks p. ninth_kept (node_at a.header.now) t a.row (in_array a.header.now a.held c.requires.0) a.at c.requires.2 lacks (place_in a.header.now a.held c.requires.0 a.at c.if-held-at.false) a.count c.if-count-ge-HELD.true

pub refresh_row-requires : goal.refresh_row-requires
refresh_row-requires c =
    let a = c.args in let lt = c.if-held-at.false in let b = c.copy_row.ensures in let l = b.outside.long in let w = c.requires.4 in let e = c.if-count-ge-HELD.false in let k = ap (λ (x : HeldRow). x.held.count) b.row in let f = few-at a.header.now a.held c.requires.0 c.requires.1 a.row a.at c.requires.2 lt in
    ready _ _ a.row (omega arith) c.requires.3 (omega arith)

pub returns : goal.returns
returns c =
    let a = c.args in λ t lacks p. keep_taken a.header.now a.held c.requires.0 c.requires.1 a.row a.at c.requires.2 c.if-held-at.false t lacks _ _ _ p a.count a.many c.if-count-ge-HELD.false c.copy_row.ensures c.refresh_row.ensures
