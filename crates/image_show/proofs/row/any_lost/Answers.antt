use native.Mathlib.Omega.{arith}
use mathlib.Core.Path.{refl, sym, ◌∙◌, ap}
use lib.ListN.{take}
use Rattle.node_shard.proofs.Loops.{any-on, any_stop, any-end}
use Rattle.image_header_row.specs.Rows.{no_peer, peers_at}
use Rattle.image_header_check.proofs.Rows.{peers_long, peer-row}
use Rattle.image_show.specs.Quiet.{lost}
use Rattle.image_show.proofs.row.any_lost.Goals as goal

pub loop-i-init : goal.loop-i-init
loop-i-init c = (omega arith, refl)

pub returns-then-is_lost : goal.returns-then-is_lost
returns-then-is_lost c =
    let a = c.args in let l = c.loop-i in let s = a.s.now in let at = a.at in let i = l.i in let p = lost (take a.holders a.replicas) in let k = c.requires.1 in let g = peers_long s at in let lt = c.loop-i-test.true in
    any_stop p (peers_at s at) a.count i (omega arith) l.invariant.1 no_peer (ap p (peer-row s at i no_peer (omega arith) ∙ sym c.peer_at-p.ensures) ∙ sym c.is_lost.ensures ∙ c.if-is_lost.true) lt

pub loop-i-preserved : goal.loop-i-preserved
loop-i-preserved c =
    let a = c.args in let l = c.loop-i in let s = a.s.now in let at = a.at in let i = l.i in let p = lost (take a.holders a.replicas) in let k = c.requires.1 in let g = peers_long s at in let lt = c.loop-i-test.true in
    (omega arith, any-on p (peers_at s at) a.count i (omega arith) l.invariant.1 no_peer (ap p (peer-row s at i no_peer (omega arith) ∙ sym c.peer_at-p.ensures) ∙ sym c.is_lost.ensures ∙ c.if-is_lost.false) lt)

pub returns : goal.returns
returns c =
    let a = c.args in let s = a.s.now in let at = a.at in let k = c.requires.1 in let g = peers_long s at in
    any-end (lost (take a.holders a.replicas)) (peers_at s at) a.count c.loop-i.i (omega arith) c.loop-i.invariant.1 (omega arith)
