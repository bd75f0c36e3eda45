use native.Mathlib.Omega.{arith}
use mathlib.Core.Path.{refl, ◌∙◌, ap}
use Prim.Native.Nat.{◌+◌, ◌*◌, ◌≤◌, ◌<◌}
use Rattle.spec.specs.Layout.Format.{number_at}
use Rattle.spec.specs.Node.WellFormed.{ack_fits}
use Rattle.node_shard.proofs.Loops.{every-on, every_stop, every-end}
use Rattle.image_header_row.specs.Rows.{no_peer, peers_at}
use Rattle.image_header_check.proofs.Rows.{peers_long, peer-row, ack_over, ack_under}
use Rattle.image_header_check.proofs.formed.acks_fit.Goals as goal

pub loop-i-init : goal.loop-i-init
loop-i-init c = (omega arith, refl)

pub returns-then-get8-gt-LAST_TIME : goal.returns-then-get8-gt-LAST_TIME
returns-then-get8-gt-LAST_TIME c =
    let a = c.args in
    let l = c.loop-i in
    let s = a.s.now in
    let at = a.at in
    let i = l.i in
    let k = c.requires.1 in
    let g = peers_long s at in
    let lt = c.loop-i-test.true in
    let e = c.get8.ensures in
    let t = c.if-get8-gt-LAST_TIME.true in
    let h : 4611686018427387904 < number_at 8 s (at + 32 * i + 8) = omega arith in
    every_stop ack_fits (peers_at s at) a.count i (omega arith) l.invariant.1 no_peer (ap ack_fits (peer-row s at i no_peer (omega arith)) ∙ ack_over s (at + 32 * i) h) lt

pub loop-i-preserved : goal.loop-i-preserved
loop-i-preserved c =
    let a = c.args in
    let l = c.loop-i in
    let s = a.s.now in
    let at = a.at in
    let i = l.i in
    let k = c.requires.1 in
    let g = peers_long s at in
    let lt = c.loop-i-test.true in
    let e = c.get8.ensures in
    let t = c.if-get8-gt-LAST_TIME.false in
    let h : number_at 8 s (at + 32 * i + 8) ≤ 4611686018427387904 = omega arith in
    (omega arith, every-on ack_fits (peers_at s at) a.count i (omega arith) l.invariant.1 no_peer (ap ack_fits (peer-row s at i no_peer (omega arith)) ∙ ack_under s (at + 32 * i) h) lt)

pub returns : goal.returns
returns c =
    let a = c.args in
    let s = a.s.now in
    let at = a.at in
    let k = c.requires.1 in
    let g = peers_long s at in
    every-end ack_fits (peers_at s at) a.count c.loop-i.i (omega arith) c.loop-i.invariant.1 (omega arith)
