use borrow.Author.Rules.{rules}
use native.Mathlib.Omega.{arith}
use mathlib.Core.Path.{◌≡◌, sym, ◌∙◌, ap}
use lib.ListN.{get_or}
use Rattle.spec.specs.Lists.{collect}
use Rattle.spec.specs.Node.Client.{to_shrink, node_of}
use Rattle.node_shard.proofs.Loops.{collect-on, collect_past}
use Rattle.image_header_row.specs.Rows.{no_peer, peers_at}
use Rattle.image_header_check.proofs.Rows.{peers_long, peer-row}
use Rattle.image_header_form.proofs.peers.shrinks_of.Goals as goal
use Rattle.image_header_form.proofs.peers.shrinks_of.Goals.{then-shrinks, else-shrinks}

pub loop-i-init : goal.loop-i-init
loop-i-init c = unfold collect in search rules

pub loop-i-preserved : goal.loop-i-preserved
loop-i-preserved c =
    let a = c.args in
    let l = c.loop-i in
    let s = a.s.now in
    let at = a.at in
    let i = l.i in
    let g = peers_long s at in
    let lt = c.loop-i-test.true in
    let k = c.requires.1 in
    let q = l.invariant.1 in
    let m = l.invariant.2 in
    let p = to_shrink a.last a.clock a.timeout in
    let r : get_or (peers_at s at) i no_peer ≡ c.peer_at-p.result = peer-row s at i no_peer (omega arith) ∙ sym c.peer_at-p.ensures in
    let at-i : p (get_or (peers_at s at) i no_peer) ≡ c.shrinks.result = ap p r ∙ sym c.shrinks.ensures in
    elim c.if-shrinks.branch [
      | then-shrinks w ↦ rw (w.n-is, w.items-is) (omega arith, omega arith, search rules, collect-on p node_of (peers_at s at) l.items l.n i no_peer _ l.invariant.3 (at-i ∙ w.if-shrinks.true) (ap node_of (sym r)) (omega arith) (omega arith))
      | else-shrinks w ↦ rw (w.n-is, w.items-is) (omega arith, omega arith, m, collect_past p node_of (peers_at s at) l.items l.n i no_peer l.invariant.3 (at-i ∙ w.if-shrinks.false) (omega arith))
    ]

pub returns : goal.returns
returns c = let e : c.args.count ≡ c.loop-i.i = omega arith in rw e c.loop-i.invariant.3
