use native.Mathlib.Omega.{arith}
use mathlib.Core.Path.{◌≡◌, ◌∙◌, ap}
use Prim.Native.Nat.{◌+◌, ◌*◌}
use borrow.Author.Tests.{le-ltb, lt-ltb}
use Rattle.node_shard.specs.View.{below, no_peer}
use Rattle.node_shard.proofs.Loops.{lead-on, lead_stop, lead-end}
use Rattle.image_header_row.specs.Rows.{peers_at, peer_at}
use Rattle.image_header_check.proofs.Rows.{peers_long, peer-row}
use Rattle.image_header_set.proofs.Place.{node_at_lem}
use Rattle.calls_show_row.proofs.peers.place_for.Goals as goal

pub returns-then-node-get8 : goal.returns-then-node-get8
returns-then-node-get8 c =
    let a = c.args in let s = a.s.now in let at = a.at in let i = c.loop-i.i in let p = below a.node in let k = c.requires.1 in let g = peers_long s at in let lt = c.loop-i-test.true in
    lead_stop p (peers_at s at) a.count i (omega arith) c.loop-i.invariant no_peer (ap p (peer-row s at i no_peer (omega arith)) ∙ le-ltb (peer_at s (at + 32 * i)).node.0 a.node (let e = c.get8.ensures in let n = node_at_lem s (at + 32 * i) in let t = c.if-node-get8.true in omega arith)) lt

pub loop-i-preserved : goal.loop-i-preserved
loop-i-preserved c =
    let a = c.args in let s = a.s.now in let at = a.at in let i = c.loop-i.i in let p = below a.node in let k = c.requires.1 in let g = peers_long s at in let lt = c.loop-i-test.true in
    lead-on p (peers_at s at) a.count i (omega arith) c.loop-i.invariant no_peer (ap p (peer-row s at i no_peer (omega arith)) ∙ lt-ltb (peer_at s (at + 32 * i)).node.0 a.node (let e = c.get8.ensures in let n = node_at_lem s (at + 32 * i) in let t = c.if-node-get8.false in omega arith)) lt

pub returns : goal.returns
returns c =
    let a = c.args in let s = a.s.now in let at = a.at in let k = c.requires.1 in let g = peers_long s at in
    let u = c.loop-i.auto.i-end in let v = c.loop-i-test.false in
    let e : a.count ≡ c.loop-i.i = omega arith in e ∙ lead-end (below a.node) (peers_at s at) a.count c.loop-i.i (omega arith) c.loop-i.invariant (omega arith)
