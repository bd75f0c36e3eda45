use native.Mathlib.Omega.{arith}
use mathlib.Core.Path.{refl, sym, ◌∙◌}
use mathlib.Core.Bool.{true, false}
use Rattle.image_header_check.proofs.Rows.{count-is}
use Rattle.image_header_form.proofs.FrontLaws.{role_is}
use Rattle.calls_show_row.proofs.Grow.{ready_on, up_is}
use Rattle.calls_show_row.proofs.LeaveLaws.{leaves-left, leaves-rise, leaves_backup, leaves_stay}
use Rattle.calls_show_row.proofs.PeerLaws.{at_most_then}
use Rattle.calls_show_row.proofs.leave.leave.Goals as goal

pub set_holders-requires : goal.set_holders-requires
set_holders-requires c = c.requires.room

pub step_down-requires : goal.step_down-requires
step_down-requires c = let r = c.requires.room in let l = c.set_holders.auto.out in omega arith

pub returns-then-not-is_leader : goal.returns-then-not-is_leader
returns-then-not-is_leader c =
    let a = c.args in (omega arith, leaves-left a.out.now _ _ a.at a.me a.row c.set_holders.ensures c.leader_of-leader.result c.leader_of-leader.ensures (sym c.is_leader.ensures ∙ c.if-not-is_leader.true) c.step_down.ensures)

pub overflow_add-at : goal.overflow_add-at
overflow_add-at c = let r = c.requires.room in omega arith

pub role_at-role-requires : goal.role_at-role-requires
role_at-role-requires c = let r = c.requires.room in let l = c.set_holders.auto.out in omega arith

pub overflow_add-at-2 : goal.overflow_add-at-2
overflow_add-at-2 c = let r = c.requires.room in omega arith

pub get8-requires : goal.get8-requires
get8-requires c = let r = c.requires.room in let l = c.set_holders.auto.out in omega arith

pub rise-requires : goal.rise-requires
rise-requires c = ready_on c.args.out.now _ c.args.at c.args.row c.set_holders.ensures c.requires

pub returns-then-rising_to : goal.returns-then-rising_to
returns-then-rising_to c =
    let a = c.args in at_most_then c.rise.result (leaves-rise a.out.now _ _ a.at a.me a.row c.set_holders.ensures c.leader_of-leader.result c.leader_of-leader.ensures (sym c.is_leader.ensures ∙ c.if-not-is_leader.false) (up_is _ a.at c.role_at-role.result c.get8.result a.row.epoch.0 true c.role_at-role.ensures c.get8.ensures (sym c.rising_to.ensures ∙ c.if-rising_to.true))) c.rise.ensures

pub overflow_add-at-in-Backup : goal.overflow_add-at-in-Backup
overflow_add-at-in-Backup c = let r = c.requires.room in omega arith

pub get8-requires-in-Backup : goal.get8-requires-in-Backup
get8-requires-in-Backup c = let r = c.requires.room in let l = c.set_holders.auto.out in omega arith

pub stay-requires : goal.stay-requires
stay-requires c = ready_on c.args.out.now _ c.args.at c.args.row c.set_holders.ensures c.requires

pub returns-in-Backup : goal.returns-in-Backup
returns-in-Backup c =
    let a = c.args in let q = (ready_on a.out.now _ a.at a.row c.set_holders.ensures c.requires).peers in let e = c.get8-in-Backup.ensures in (omega arith, leaves_backup a.out.now _ _ a.at a.me a.row c.set_holders.ensures c.leader_of-leader.result c.leader_of-leader.ensures (sym c.is_leader.ensures ∙ c.if-not-is_leader.false) (up_is _ a.at c.role_at-role.result c.get8.result a.row.epoch.0 false c.role_at-role.ensures c.get8.ensures (sym c.rising_to.ensures ∙ c.if-rising_to.false)) (role_is _ a.at ∙ sym c.role_at-role.ensures ∙ c.in-Backup.is) c.get8-in-Backup.result (c.get8-in-Backup.ensures ∙ sym (count-is _ a.at)) (omega arith) refl)

pub returns-in-Primary : goal.returns-in-Primary
returns-in-Primary c =
    let a = c.args in at_most_then c.stay.result (leaves_stay a.out.now _ _ a.at a.me a.row c.set_holders.ensures c.leader_of-leader.result c.leader_of-leader.ensures (sym c.is_leader.ensures ∙ c.if-not-is_leader.false) (up_is _ a.at c.role_at-role.result c.get8.result a.row.epoch.0 false c.role_at-role.ensures c.get8.ensures (sym c.rising_to.ensures ∙ c.if-rising_to.false)) _ _ (role_is _ a.at ∙ sym c.role_at-role.ensures ∙ c.in-Primary.is)) c.stay.ensures
