use borrow.Author.Rules.{rules}
use native.Mathlib.Omega.{arith}
use mathlib.Core.Path.{refl, sym, ◌∙◌, ap}
use Rattle.node_header.specs.View.{no_held_row}
use Rattle.node_header.specs.Formed.{held_row_fits}
use Rattle.node_shard.proofs.Loops.{every-on, every_stop, every-end}
use Rattle.image_header.specs.Image.{node_at}
use Rattle.image_header_check.proofs.Rows.{held_long, row_at}
use Rattle.image_header_check.proofs.formed.all_fit.Goals as goal

pub loop-i-init : goal.loop-i-init
loop-i-init c = (omega arith, refl)

pub returns-then-not-row_fits : goal.returns-then-not-row_fits
returns-then-not-row_fits c =
    let a = c.args in
    let the-pre = c.requires in
    let l = c.loop-i in
    let s = a.s.now in
    let i = l.i in
    let n = a.count in
    let k = the-pre.1 in
    let g = held_long s in
    let lt = c.loop-i-test.true in
    every_stop held_row_fits (node_at s).held n i (omega arith) l.invariant.1 no_held_row (ap held_row_fits (row_at s n (the-pre) i no_held_row lt) ∙ sym c.row_fits.ensures ∙ c.if-not-row_fits.true) lt

pub loop-i-preserved : goal.loop-i-preserved
loop-i-preserved c =
    let a = c.args in
    let the-pre = c.requires in
    let l = c.loop-i in
    let s = a.s.now in
    let i = l.i in
    let n = a.count in
    let k = the-pre.1 in
    let g = held_long s in
    let lt = c.loop-i-test.true in
    (omega arith, every-on held_row_fits (node_at s).held n i (omega arith) l.invariant.1 no_held_row (ap held_row_fits (row_at s n (the-pre) i no_held_row lt) ∙ sym c.row_fits.ensures ∙ c.if-not-row_fits.false) lt)

pub returns : goal.returns
returns c =
    let a = c.args in
    let s = a.s.now in
    let k = c.requires.1 in
    let g = held_long s in
    every-end held_row_fits (node_at s).held a.count c.loop-i.i (omega arith) c.loop-i.invariant.1 (search rules)
