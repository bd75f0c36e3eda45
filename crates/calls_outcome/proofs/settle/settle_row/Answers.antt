use native.Mathlib.Omega.{arith}
use mathlib.Core.Path.{sym, ◌∙◌, ap}
use Rattle.image_parts.specs.Codes.{flag_of}
use Rattle.calls_outcome.proofs.SettleLaws.{settle_not, settle-none, settle-row}
use Rattle.calls_outcome.proofs.settle.settle_row.Goals as goal

pub overflow_add-row : goal.overflow_add-row
overflow_add-row c = let p = c.requires.0 in omega arith

pub role_at-role-requires : goal.role_at-role-requires
role_at-role-requires c = let p = c.requires.0 in omega arith

pub returns-then-not-leads : goal.returns-then-not-leads
returns-then-not-leads c =
    settle_not c.args.out.now c.args.row c.args.me c.args.epoch c.args.peer c.args.left c.role_at-role.result c.role_at-role.ensures (sym c.leads.ensures ∙ c.if-not-leads.true)

pub overflow_add-row-2 : goal.overflow_add-row-2
overflow_add-row-2 c = let p = c.requires.0 in omega arith

pub get8-n-requires : goal.get8-n-requires
get8-n-requires c = let p = c.requires.0 in omega arith

pub overflow_add-row-3 : goal.overflow_add-row-3
overflow_add-row-3 c = let p = c.requires.0 in omega arith

pub place_of-i-requires : goal.place_of-i-requires
place_of-i-requires c =
    let p = c.requires.0 in let w = c.requires.1 in let e = c.get8-n.ensures in (omega arith, omega arith)

pub overflow_add-row-4 : goal.overflow_add-row-4
overflow_add-row-4 c = let p = c.requires.0 in omega arith

pub get4-requires : goal.get4-requires
get4-requires c = let p = c.requires.0 in omega arith

pub set_own-requires : goal.set_own-requires
set_own-requires c = c.requires.0

pub returns-then-n-i : goal.returns-then-n-i
returns-then-n-i c =
    settle-none c.args.out.now c.args.row c.args.me c.args.epoch c.args.peer c.args.left c.role_at-role.result c.role_at-role.ensures (sym c.leads.ensures ∙ c.if-not-leads.false) c.flag_of.result (c.flag_of.ensures ∙ ap flag_of c.get4.ensures) c.own_after-own.result c.own_after-own.ensures c.get8-n.result c.get8-n.ensures c.requires.1 c.place_of-i.result c.place_of-i.ensures c.if-n-i.true _ c.set_own.ensures

pub overflow_add-row-5 : goal.overflow_add-row-5
overflow_add-row-5 c = let p = c.requires.0 in omega arith

pub overflow_mul-i : goal.overflow_mul-i
overflow_mul-i c =
    let p = c.requires.0 in let w = c.requires.1 in let e = c.get8-n.ensures in let h = c.if-n-i.false in omega arith

pub overflow_add-row-6 : goal.overflow_add-row-6
overflow_add-row-6 c =
    let p = c.requires.0 in let w = c.requires.1 in let e = c.get8-n.ensures in let h = c.if-n-i.false in omega arith

pub peer_at-p-requires : goal.peer_at-p-requires
peer_at-p-requires c =
    let p = c.requires.0 in let w = c.requires.1 in let e = c.get8-n.ensures in let h = c.if-n-i.false in omega arith

pub set_peer-requires : goal.set_peer-requires
set_peer-requires c =
    let w = c.requires.1 in let e = c.get8-n.ensures in let h = c.if-n-i.false in (c.requires.0, omega arith)

pub set_own-requires-2 : goal.set_own-requires-2
set_own-requires-2 c = let p = c.requires.0 in let l = c.set_peer.auto.out in omega arith

pub shape_of-out : goal.shape_of-out
shape_of-out c = c.set_own-2.auto.out ∙ c.set_peer.auto.out

pub returns : goal.returns
returns c =
    settle-row c.args.out.now c.args.row c.args.me c.args.epoch c.args.peer c.args.left c.role_at-role.result c.role_at-role.ensures (sym c.leads.ensures ∙ c.if-not-leads.false) c.flag_of.result (c.flag_of.ensures ∙ ap flag_of c.get4.ensures) c.own_after-own.result c.own_after-own.ensures c.get8-n.result c.get8-n.ensures c.requires.1 c.place_of-i.result c.place_of-i.ensures c.if-n-i.false c.peer_at-p.result c.peer_at-p.ensures c.row_settled-q.result c.row_settled-q.ensures _ _ c.set_peer.ensures c.set_own-2.ensures
