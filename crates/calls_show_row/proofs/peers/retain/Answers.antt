use native.Mathlib.Omega.{arith}
use lib.ListN.{take}
use Rattle.spec.specs.Node.Shown.{retained}
use Rattle.calls_show_row.proofs.PeerLaws.{change-start, change-step, change-end}
use Rattle.calls_show_row.proofs.peers.retain.Goals as goal

pub loop-i-init : goal.loop-i-init
loop-i-init c =
    (omega arith, change-start c.args.out.now c.args.row (retained (take c.args.holders c.args.replicas)))

pub overflow_add-row : goal.overflow_add-row
overflow_add-row c = let l = c.loop-i.invariant.1.0.outside.long in let r = c.requires.0 in omega arith

pub overflow_mul-i : goal.overflow_mul-i
overflow_mul-i c = let t = c.loop-i-test.true in let k = c.requires.1 in omega arith

pub overflow_add-row-in-loop-i : goal.overflow_add-row-in-loop-i
overflow_add-row-in-loop-i c =
    let l = c.loop-i.invariant.1.0.outside.long in let r = c.requires.0 in let t = c.loop-i-test.true in let k = c.requires.1 in omega arith

pub peer_at-p-requires : goal.peer_at-p-requires
peer_at-p-requires c =
    let l = c.loop-i.invariant.1.0.outside.long in let r = c.requires.0 in let t = c.loop-i-test.true in let k = c.requires.1 in omega arith

pub row_retained-q-requires : goal.row_retained-q-requires
row_retained-q-requires c = c.requires.2

pub set_peer-requires : goal.set_peer-requires
set_peer-requires c =
    let l = c.loop-i.invariant.1.0.outside.long in let r = c.requires.0 in let t = c.loop-i-test.true in let k = c.requires.1 in (omega arith, omega arith)

pub loop-i-preserved : goal.loop-i-preserved
loop-i-preserved c =
    let a = c.args in let l = c.loop-i in let t = c.loop-i-test.true in let k = c.requires.1 in
    (omega arith, change-step a.out.now a.row (retained (take a.holders a.replicas)) l.out _ l.i c.peer_at-p.result c.row_retained-q.result (omega arith) l.invariant.1 c.peer_at-p.ensures c.row_retained-q.ensures c.set_peer.ensures)

pub shape_of-out : goal.shape_of-out
shape_of-out c = c.loop-i.invariant.1.0.outside.long

pub returns : goal.returns
returns c =
    let a = c.args in let l = c.loop-i in let t = c.loop-i-test.false in let k = l.invariant.0 in change-end a.out.now a.row (retained (take a.holders a.replicas)) l.out l.i a.count l.invariant.1 (omega arith)
