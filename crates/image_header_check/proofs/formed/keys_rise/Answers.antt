use borrow.Author.Rules.{rules}
use native.Mathlib.Omega.{arith}
use mathlib.Core.Path.{◌≡◌, refl, sym, ◌∙◌}
use Prim.Native.Nat.{◌+◌, ◌-◌, ◌*◌}
use Rattle.spec.specs.Lists.{rising}
use Rattle.spec.specs.Keys.{key_below}
use Rattle.map_tables.specs.Names.{view_key}
use Rattle.node_header.specs.View.{no_held_row}
use Rattle.node_header.specs.Formed.{held_row_below}
use Rattle.node_shard.proofs.Loops.{rise-on, rise_stop, rise-end}
use Rattle.image_parts.specs.Parts.{key_at}
use Rattle.image_header.specs.Image.{node_at}
use Rattle.image_header_check.proofs.Rows.{held_long, row_at, below-is}
use Rattle.image_header_check.proofs.formed.keys_rise.Goals as goal

pub returns-then-count-eq0 : goal.returns-then-count-eq0
unfolding rising
returns-then-count-eq0 c = rw c.if-count-eq0.true refl

pub loop-i-init : goal.loop-i-init
loop-i-init c = (search rules, search rules, refl)

pub returns-then-not-key_below : goal.returns-then-not-key_below
returns-then-not-key_below c =
    let a = c.args in
    let the-pre = c.requires in
    let l = c.loop-i in
    let s = a.s.now in
    let i = l.i in
    let n = a.count in
    let k = the-pre.1 in
    let g = held_long s in
    let lt = c.loop-i-test.true in
    let f = l.invariant.0 in
    let r : c.key_below.result ≡ key_below (view_key (key_at s (48 + 1280 * (i - 1)))) (view_key (key_at s (48 + 1280 * i))) = c.key_below.ensures ∙ (rw (c.key_at-a.ensures, c.key_at-b.ensures)) in
    rise_stop held_row_below (node_at s).held n i (omega arith) f l.invariant.2 no_held_row lt (rw (row_at s n (the-pre) (i - 1) no_held_row (omega arith), row_at s n (the-pre) i no_held_row lt) (below-is s (48 + 1280 * (i - 1)) (48 + 1280 * i) ∙ sym r ∙ c.if-not-key_below.true))

pub loop-i-preserved : goal.loop-i-preserved
loop-i-preserved c =
    let a = c.args in
    let the-pre = c.requires in
    let l = c.loop-i in
    let s = a.s.now in
    let i = l.i in
    let n = a.count in
    let k = the-pre.1 in
    let g = held_long s in
    let lt = c.loop-i-test.true in
    let f = l.invariant.0 in
    let r : c.key_below.result ≡ key_below (view_key (key_at s (48 + 1280 * (i - 1)))) (view_key (key_at s (48 + 1280 * i))) = c.key_below.ensures ∙ (rw (c.key_at-a.ensures, c.key_at-b.ensures)) in
    (omega arith, omega arith, rise-on held_row_below (node_at s).held n i (omega arith) f l.invariant.2 no_held_row lt (rw (row_at s n (the-pre) (i - 1) no_held_row (omega arith), row_at s n (the-pre) i no_held_row lt) (below-is s (48 + 1280 * (i - 1)) (48 + 1280 * i) ∙ sym r ∙ c.if-not-key_below.false)))

pub returns : goal.returns
returns c =
    let a = c.args in
    let s = a.s.now in
    let k = c.requires.1 in
    let g = held_long s in
    let t = c.loop-i-test.false in
    let b = c.loop-i.invariant.1 in
    rise-end held_row_below (node_at s).held a.count c.loop-i.i (omega arith) c.loop-i.invariant.0 c.loop-i.invariant.2 no_held_row (omega arith)
