use borrow.Author.Rules.{rules}
use native.Mathlib.Omega.{arith}
use mathlib.Core.Path.{refl}
use Prim.Native.Nat.{◌+◌, ◌-◌, ◌*◌, ◌≤◌, ◌<◌}
use Rattle.spec.specs.Lists.{rising}
use Rattle.spec.specs.Layout.Format.{number_at}
use Rattle.spec.specs.Node.Shards.{row_below}
use Rattle.node_shard.proofs.Loops.{rise-on, rise_stop, rise-end}
use Rattle.image_header_row.specs.Rows.{no_peer, peers_at}
use Rattle.image_header_check.proofs.Rows.{peers_long, peer-row, row_over, row_under}
use Rattle.image_header_check.proofs.formed.rows_rise.Goals as goal

pub returns-then-count-eq0 : goal.returns-then-count-eq0
unfolding rising
returns-then-count-eq0 c = rw c.if-count-eq0.true refl

pub loop-i-init : goal.loop-i-init
loop-i-init c = (search rules, search rules, refl)

pub returns-then-get8 : goal.returns-then-get8
returns-then-get8 c =
    let a = c.args in
    let l = c.loop-i in
    let s = a.s.now in
    let at = a.at in
    let i = l.i in
    let k = c.requires.1 in
    let g = peers_long s at in
    let lt = c.loop-i-test.true in
    let e = c.get8.ensures in
    let f = c.get8-in-loop-i.ensures in
    let t = c.if-get8.true in
    let h : number_at 8 s (at + 32 * i) ≤ number_at 8 s (at + 32 * (i - 1)) = omega arith in
    rise_stop row_below (peers_at s at) a.count i (omega arith) l.invariant.0 l.invariant.2 no_peer lt (rw (peer-row s at (i - 1) no_peer (omega arith), peer-row s at i no_peer (omega arith)) (row_over s (at + 32 * (i - 1)) (at + 32 * i) h))

pub loop-i-preserved : goal.loop-i-preserved
loop-i-preserved c =
    let a = c.args in
    let l = c.loop-i in
    let s = a.s.now in
    let at = a.at in
    let i = l.i in
    let k = c.requires.1 in
    let g = peers_long s at in
    let lt = c.loop-i-test.true in
    let e = c.get8.ensures in
    let f = c.get8-in-loop-i.ensures in
    let t = c.if-get8.false in
    let h : number_at 8 s (at + 32 * (i - 1)) < number_at 8 s (at + 32 * i) = omega arith in
    (omega arith, omega arith, rise-on row_below (peers_at s at) a.count i (omega arith) l.invariant.0 l.invariant.2 no_peer lt (rw (peer-row s at (i - 1) no_peer (omega arith), peer-row s at i no_peer (omega arith)) (row_under s (at + 32 * (i - 1)) (at + 32 * i) h)))

pub returns : goal.returns
returns c =
    let a = c.args in
    let s = a.s.now in
    let at = a.at in
    let k = c.requires.1 in
    let g = peers_long s at in
    let t = c.loop-i-test.false in
    let b = c.loop-i.invariant.1 in
    rise-end row_below (peers_at s at) a.count c.loop-i.i (omega arith) c.loop-i.invariant.0 c.loop-i.invariant.2 no_peer (omega arith)
