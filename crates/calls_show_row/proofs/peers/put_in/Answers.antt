use native.Mathlib.Omega.{arith}
use Rattle.calls_show_row.proofs.PeerLaws.{carry_start, carry_step, carry_end}
use Rattle.calls_show_row.proofs.peers.put_in.Goals as goal

pub loop-i-init : goal.loop-i-init
loop-i-init c =
    carry_start c.args.out.now c.args.row c.args.to c.args.x

pub overflow_add-row : goal.overflow_add-row
overflow_add-row c = let l = c.loop-i.invariant.0.outside.long in let r = c.requires.0 in omega arith

pub overflow_mul-i : goal.overflow_mul-i
overflow_mul-i c = let t = c.loop-i-test.true in let k = c.requires.1 in omega arith

pub overflow_add-row-in-loop-i : goal.overflow_add-row-in-loop-i
overflow_add-row-in-loop-i c =
    let l = c.loop-i.invariant.0.outside.long in let r = c.requires.0 in let t = c.loop-i-test.true in let k = c.requires.1 in omega arith

pub peer_at-t-requires : goal.peer_at-t-requires
peer_at-t-requires c =
    let l = c.loop-i.invariant.0.outside.long in let r = c.requires.0 in let t = c.loop-i-test.true in let k = c.requires.1 in omega arith

pub set_peer-requires : goal.set_peer-requires
set_peer-requires c =
    let l = c.loop-i.invariant.0.outside.long in let r = c.requires.0 in let t = c.loop-i-test.true in let k = c.requires.1 in (omega arith, omega arith)

pub loop-i-preserved : goal.loop-i-preserved
loop-i-preserved c =
    let a = c.args in let l = c.loop-i in let t = c.loop-i-test.true in let k = c.requires.1 in
    carry_step a.out.now a.row a.to a.x l.out _ l.i l.carry c.peer_at-t.result (omega arith) l.invariant c.peer_at-t.ensures c.set_peer.ensures

pub shape_of-out : goal.shape_of-out
shape_of-out c = c.loop-i.invariant.0.outside.long

pub returns : goal.returns
returns c =
    let a = c.args in let l = c.loop-i in let t = c.loop-i-test.false in let k = l.auto.i-end in let p = c.requires.2 in carry_end a.out.now a.row a.to a.x l.out l.i a.count l.carry l.invariant (omega arith) c.requires.2 c.requires.1
