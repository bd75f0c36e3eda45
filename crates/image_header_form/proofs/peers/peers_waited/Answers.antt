use borrow.Author.Rules.{rules}
use native.Mathlib.Omega.{arith}
use mathlib.Core.Path.{◌≡◌, refl, ◌∙◌, ap, subst}
use Prim.Native.Nat.{ℕ}
use lib.ListN.{take, drop}
use mathlib.Core.List.{map}
use Rattle.spec.specs.Node.Client.{wait_row}
use Rattle.image_header_row.specs.Rows.{no_peer, peers_at}
use Rattle.image_parts.specs.Canon.{padded}
use Rattle.image_header_form.proofs.PeerLaws.{Done, done-start, still, done-step, done_end, clear, clear_step, waited_long, waited-row, waited_tail}
use Rattle.image_header_form.proofs.peers.peers_waited.Goals as goal

pub loop-i-init : goal.loop-i-init
loop-i-init c =
    (done-start c.args.out.now c.args.at (padded 32 no_peer (map (wait_row c.args.last c.args.clock c.args.timeout) (take c.args.count (peers_at c.args.out.now c.args.at)))), omega arith, c.requires.1, c.requires.0)

pub overflow_mul-i : goal.overflow_mul-i
overflow_mul-i c =
    let the-loop = c.loop-i in
    let l = the-loop.invariant.0.0 in
    let few = the-loop.invariant.2 in
    let room = the-loop.invariant.3 in
    let lt = c.loop-i-test.true in search rules

pub peer_at-p-requires : goal.peer_at-p-requires
peer_at-p-requires c =
    let the-loop = c.loop-i in
    let l = the-loop.invariant.0.0 in
    let few = the-loop.invariant.2 in
    let room = the-loop.invariant.3 in
    let lt = c.loop-i-test.true in omega arith

pub put_peer-requires : goal.put_peer-requires
put_peer-requires c =
    let the-loop = c.loop-i in
    let l = the-loop.invariant.0.0 in
    let few = the-loop.invariant.2 in
    let room = the-loop.invariant.3 in
    let lt = c.loop-i-test.true in omega arith

pub loop-i-preserved : goal.loop-i-preserved
loop-i-preserved c =
    let a = c.args in
    let l = c.loop-i in
    let the-row-waited = c.row_waited-q in
    let the-put-peer = c.put_peer in
    let s = a.out.now in
    let at = a.at in
    let n = a.count in
    let i = l.i in
    let few = l.invariant.2 in
    let lt = c.loop-i-test.true in
    (done-step s at (padded 32 no_peer (map (wait_row a.last a.clock a.timeout) (take a.count (peers_at a.out.now a.at)))) l.out _ i l.invariant.3 (omega arith) (waited_long s at n few (wait_row a.last a.clock a.timeout)) l.invariant.0 the-put-peer.auto.out the-row-waited.result (the-row-waited.ensures ∙ ap (wait_row a.last a.clock a.timeout) (c.peer_at-p.ensures ∙ still s at (padded 32 no_peer (map (wait_row a.last a.clock a.timeout) (take a.count (peers_at a.out.now a.at)))) l.out i l.invariant.0) ∙ waited-row s at n few (wait_row a.last a.clock a.timeout) i lt) the-put-peer.ensures, omega arith, few, l.invariant.3)

pub loop-i-2-init : goal.loop-i-2-init
loop-i-2-init c =
    let k = c.loop-i.invariant.1 in
    let few = c.loop-i.invariant.2 in
    let room = c.loop-i.invariant.3 in
    let l = c.loop-i.invariant.0.0 in (omega arith, omega arith, omega arith, refl, refl)

pub put_peer-requires-in-loop-i-2 : goal.put_peer-requires-in-loop-i-2
put_peer-requires-in-loop-i-2 c =
    let the-loop2 = c.loop-i-2 in
    let l = the-loop2.invariant.3 in
    let room = the-loop2.invariant.2 in
    let lt = c.loop-i-2-test.true in omega arith

pub loop-i-2-preserved : goal.loop-i-2-preserved
loop-i-2-preserved c =
    let the-loop2 = c.loop-i-2 in
    let the-no-peer = c.no_peer-none in
    let the-put-peer2 = c.put_peer-in-loop-i-2 in
    let lt = c.loop-i-2-test.true in
    let k = the-loop2.invariant.1 in
    (omega arith, omega arith, the-loop2.invariant.2, the-put-peer2.auto.out ∙ the-loop2.invariant.3, clear_step the-loop2.out _ c.args.at the-loop2.i lt the-no-peer.result the-no-peer.ensures the-put-peer2.ensures ∙ the-loop2.invariant.4)

pub shape_of-out : goal.shape_of-out
shape_of-out c = c.loop-i-2.invariant.3 ∙ c.loop-i.invariant.0.0

pub returns : goal.returns
returns c =
    let a = c.args in
    let l = c.loop-i in
    let s = a.out.now in
    let at = a.at in
    let n = a.count in
    let few = l.invariant.2 in
    let k = l.invariant.1 in
    let z = c.loop-i-test.false in
    let lt = c.loop-i-2-test.false in
    let m = c.loop-i-2.invariant.0 in
    let e : l.i ≡ a.count = omega arith in
    done_end s at (padded 32 no_peer (map (wait_row a.last a.clock a.timeout) (take a.count (peers_at a.out.now a.at)))) l.out c.loop-i-2.out n c.loop-i-2.i (omega arith) c.loop-i-2.invariant.1 (waited_long s at n few (wait_row a.last a.clock a.timeout)) (subst (λ (j : ℕ). Done s at (padded 32 no_peer (map (wait_row a.last a.clock a.timeout) (take a.count (peers_at a.out.now a.at)))) l.out j) e l.invariant.0) (waited_tail s at n few (wait_row a.last a.clock a.timeout)) c.loop-i-2.invariant.4
