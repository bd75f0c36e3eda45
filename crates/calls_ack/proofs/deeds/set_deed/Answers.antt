use native.Mathlib.Omega.{arith}
use Rattle.calls_ack.proofs.DeedLaws.{done-nothing, done_down, done_unalign, done-joins, done_stays}
use Rattle.calls_ack.proofs.deeds.set_deed.Goals as goal

pub step_down-requires : goal.step_down-requires
step_down-requires c = c.requires.0

pub peer_at-p-requires : goal.peer_at-p-requires
peer_at-p-requires c = let p = c.requires.0 in let q = c.requires.1 in omega arith

pub set_peer-requires : goal.set_peer-requires
set_peer-requires c = c.requires

pub overflow_add-row : goal.overflow_add-row
overflow_add-row c = let p = c.requires.0 in omega arith

pub get8-last-requires : goal.get8-last-requires
get8-last-requires c = let p = c.requires.0 in omega arith

pub peer_at-p-requires-in-Record : goal.peer_at-p-requires-in-Record
peer_at-p-requires-in-Record c = let p = c.requires.0 in let q = c.requires.1 in omega arith

pub set_peer-requires-in-Record : goal.set_peer-requires-in-Record
set_peer-requires-in-Record c = c.requires

pub returns-then-joining : goal.returns-then-joining
returns-then-joining c =
    let a = c.args in done-joins a.out.now a.row a.i a.d c.requires.1 c.peer_at-p-in-Record.result c.peer_at-p-in-Record.ensures _ _ c.in-Record.is c.get8-last.result c.get8-last.ensures c.joining.result c.joining.ensures c.row_acked-q.result c.row_acked-q.ensures _ c.set_peer-in-Record.ensures c.if-joining.true

pub returns-in-Nothing : goal.returns-in-Nothing
returns-in-Nothing c = let a = c.args in done-nothing a.out.now a.row a.i a.d c.in-Nothing.is

pub returns-in-StepDown : goal.returns-in-StepDown
returns-in-StepDown c = let a = c.args in done_down a.out.now a.row a.i a.d c.in-StepDown.is _ c.step_down.ensures

pub returns-in-Unalign : goal.returns-in-Unalign
returns-in-Unalign c =
    let a = c.args in done_unalign a.out.now a.row a.i a.d c.requires.1 c.peer_at-p.result c.peer_at-p.ensures c.in-Unalign.is c.unaligned.result c.unaligned.ensures _ c.set_peer.ensures

pub returns-else-joining : goal.returns-else-joining
returns-else-joining c =
    let a = c.args in done_stays a.out.now a.row a.i a.d c.requires.1 c.peer_at-p-in-Record.result c.peer_at-p-in-Record.ensures _ _ c.in-Record.is c.get8-last.result c.get8-last.ensures c.joining.result c.joining.ensures c.row_acked-q.result c.row_acked-q.ensures _ c.set_peer-in-Record.ensures c.if-joining.false
