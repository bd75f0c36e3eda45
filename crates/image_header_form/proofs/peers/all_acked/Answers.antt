use native.Mathlib.Omega.{arith}
use mathlib.Core.Path.{refl, sym, ◌∙◌, ap}
use mathlib.Core.Bool.{not}
use Rattle.spec.specs.Node.Client.{has_acked}
use Rattle.node_shard.proofs.Loops.{every-on, every_stop, every-end}
use Rattle.image_header_row.specs.Rows.{no_peer, peers_at}
use Rattle.image_header_check.proofs.Rows.{peers_long, peer-row}
use Rattle.image_header_form.proofs.peers.all_acked.Goals as goal

pub loop-i-init : goal.loop-i-init
loop-i-init c = (omega arith, refl)

pub returns-then-is_late : goal.returns-then-is_late
returns-then-is_late c =
    let a = c.args in
    let l = c.loop-i in
    let s = a.s.now in
    let at = a.at in
    let i = l.i in
    let p = has_acked a.offset in
    let k = c.requires.1 in
    let g = peers_long s at in
    let lt = c.loop-i-test.true in
    every_stop p (peers_at s at) a.count i (omega arith) l.invariant.1 no_peer (ap p (peer-row s at i no_peer (omega arith) ∙ sym c.peer_at-p.ensures) ∙ ap not (sym c.is_late.ensures ∙ c.if-is_late.true)) lt

pub loop-i-preserved : goal.loop-i-preserved
loop-i-preserved c =
    let a = c.args in
    let l = c.loop-i in
    let s = a.s.now in
    let at = a.at in
    let i = l.i in
    let p = has_acked a.offset in
    let k = c.requires.1 in
    let g = peers_long s at in
    let lt = c.loop-i-test.true in
    (omega arith, every-on p (peers_at s at) a.count i (omega arith) l.invariant.1 no_peer (ap p (peer-row s at i no_peer (omega arith) ∙ sym c.peer_at-p.ensures) ∙ ap not (sym c.is_late.ensures ∙ c.if-is_late.false)) lt)

pub returns : goal.returns
returns c =
    let a = c.args in
    let s = a.s.now in
    let at = a.at in
    let k = c.requires.1 in
    let g = peers_long s at in
    every-end (has_acked a.offset) (peers_at s at) a.count c.loop-i.i (omega arith) c.loop-i.invariant.1 (omega arith)
