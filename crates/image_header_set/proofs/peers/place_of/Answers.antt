use native.Mathlib.Omega.{arith}
use mathlib.Core.Path.{◌≡◌, sym, ◌∙◌, ap}
use Prim.Native.Nat.{◌+◌, ◌*◌}
use borrow.Author.Tests.{eq-eqb, ne_eqb}
use mathlib.Core.Bool.{not}
use Rattle.node_shard.specs.View.{others, no_peer}
use Rattle.node_shard.proofs.Loops.{lead-on, lead_stop, lead-end}
use Rattle.image_header_row.specs.Rows.{peers_at}
use Rattle.image_header_check.proofs.Rows.{peers_long, peer-row}
use Rattle.image_header_set.proofs.Place.{node_at_lem}
use Rattle.image_header_set.proofs.peers.place_of.Goals as goal

pub returns-then-get8-node : goal.returns-then-get8-node
returns-then-get8-node c =
    let a = c.args in let s = a.s.now in let at = a.at in let i = c.loop-i.i in let p = others a.node in let k = c.requires.1 in let g = peers_long s at in let lt = c.loop-i-test.true in
    lead_stop p (peers_at s at) a.count i (omega arith) c.loop-i.invariant.1 no_peer (ap p (peer-row s at i no_peer (omega arith)) ∙ ap not (eq-eqb _ _ (node_at_lem s (at + 32 * i) ∙ sym c.get8.ensures ∙ c.if-get8-node.true))) lt

pub loop-i-preserved : goal.loop-i-preserved
loop-i-preserved c =
    let a = c.args in let s = a.s.now in let at = a.at in let i = c.loop-i.i in let p = others a.node in let k = c.requires.1 in let g = peers_long s at in let lt = c.loop-i-test.true in
    (omega arith, lead-on p (peers_at s at) a.count i (omega arith) c.loop-i.invariant.1 no_peer (ap p (peer-row s at i no_peer (omega arith)) ∙ ap not (ne_eqb _ _ (λ e. c.if-get8-node.false (c.get8.ensures ∙ sym (node_at_lem s (at + 32 * i)) ∙ e)))) lt)

pub returns : goal.returns
returns c =
    let a = c.args in let s = a.s.now in let at = a.at in let k = c.requires.1 in let g = peers_long s at in let e : a.count ≡ c.loop-i.i = omega arith in
    e ∙ lead-end (others a.node) (peers_at s at) a.count c.loop-i.i (omega arith) c.loop-i.invariant.1 (omega arith)
