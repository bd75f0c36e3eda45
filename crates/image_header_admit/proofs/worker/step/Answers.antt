use borrow.Author.Tests.{not-true, not-false}
use borrow.Author.Rules.{rules}
use native.Mathlib.Omega.{arith}
use Rattle.image_header_admit.proofs.Step.{holders-few, count-few, stop_not, stop_gone, align_new, align_old, ack_fits_lem, sends-on}
use Rattle.image_header_admit.proofs.worker.step.Goals as goal

pub returns-then-not-leads : goal.returns-then-not-leads
returns-then-not-leads c =
    let a = c.args in stop_not a.header.now a.row a.epoch a.peer c.requires.1 c.role_at-role.result c.role_at-role.ensures c.leads.result c.leads.ensures (c.if-not-leads.true)

pub is_holder-requires : goal.is_holder-requires
is_holder-requires c =
    let a = c.args in holders-few a.header.now a.row a.epoch a.peer c.requires.1 c.get8-holders.result c.get8-holders.ensures

pub returns-then-not-is_holder : goal.returns-then-not-is_holder
returns-then-not-is_holder c =
    let a = c.args in stop_gone a.header.now a.row a.epoch a.peer c.requires.1 c.role_at-role.result c.role_at-role.ensures c.leads.result c.leads.ensures (c.if-not-leads.false) _ c.replicas_at-replicas.ensures c.get8-holders.result c.get8-holders.ensures c.is_holder.result c.is_holder.ensures (c.if-not-is_holder.true)

pub place_of-at-requires : goal.place_of-at-requires
place_of-at-requires c =
    let a = c.args in let p = c.requires.0 in (omega arith, count-few a.header.now a.row a.epoch a.peer c.requires.1 c.get8-count.result c.get8-count.ensures)

pub returns-then-count-at : goal.returns-then-count-at
returns-then-count-at c =
    let a = c.args in align_new a.header.now a.row a.epoch a.peer c.requires.1 c.role_at-role.result c.role_at-role.ensures c.leads.result c.leads.ensures (c.if-not-leads.false) _ c.replicas_at-replicas.ensures c.get8-holders.result c.get8-holders.ensures c.is_holder.result c.is_holder.ensures (c.if-not-is_holder.false) c.get8-count.result c.get8-count.ensures c.place_of-at.result c.place_of-at.ensures c.if-count-at.true

pub overflow_mul-at : goal.overflow_mul-at
overflow_mul-at c =
    let a = c.args in let n = count-few a.header.now a.row a.epoch a.peer c.requires.1 c.get8-count.result c.get8-count.ensures in let t = c.if-count-at.false in omega arith

pub overflow_add-rows-2 : goal.overflow_add-rows-2
overflow_add-rows-2 c =
    let a = c.args in let g = c.well_formed in let p = c.requires.0 in let n = count-few a.header.now a.row a.epoch a.peer c.requires.1 c.get8-count.result c.get8-count.ensures in let t = c.if-count-at.false in search rules

pub peer_at-p-requires : goal.peer_at-p-requires
peer_at-p-requires c =
    let a = c.args in let p = c.requires.0 in let n = count-few a.header.now a.row a.epoch a.peer c.requires.1 c.get8-count.result c.get8-count.ensures in let t = c.if-count-at.false in omega arith

pub returns-then-not-p : goal.returns-then-not-p
returns-then-not-p c =
    let a = c.args in align_old a.header.now a.row a.epoch a.peer c.requires.1 c.role_at-role.result c.role_at-role.ensures c.leads.result c.leads.ensures (c.if-not-leads.false) _ c.replicas_at-replicas.ensures c.get8-holders.result c.get8-holders.ensures c.is_holder.result c.is_holder.ensures (c.if-not-is_holder.false) c.get8-count.result c.get8-count.ensures c.place_of-at.result c.place_of-at.ensures c.if-count-at.false c.peer_at-p.result c.peer_at-p.ensures (not-true _ c.if-not-p.true)

pub get8-requires : goal.get8-requires
get8-requires c = let p = c.requires.0 in omega arith

pub sends-requires : goal.sends-requires
sends-requires c =
    let a = c.args in ack_fits_lem a.header.now a.row a.epoch a.peer c.requires.1 c.role_at-role.result c.role_at-role.ensures c.leads.result c.leads.ensures (c.if-not-leads.false) _ c.replicas_at-replicas.ensures c.get8-holders.result c.get8-holders.ensures c.is_holder.result c.is_holder.ensures (c.if-not-is_holder.false) c.get8-count.result c.get8-count.ensures c.place_of-at.result c.place_of-at.ensures c.if-count-at.false c.peer_at-p.result c.peer_at-p.ensures

pub returns : goal.returns
returns c =
    let a = c.args in sends-on a.header.now a.row a.epoch a.peer c.requires.1 c.role_at-role.result c.role_at-role.ensures c.leads.result c.leads.ensures (c.if-not-leads.false) _ c.replicas_at-replicas.ensures c.get8-holders.result c.get8-holders.ensures c.is_holder.result c.is_holder.ensures (c.if-not-is_holder.false) c.get8-count.result c.get8-count.ensures c.place_of-at.result c.place_of-at.ensures c.if-count-at.false c.peer_at-p.result c.peer_at-p.ensures (not-false _ c.if-not-p.false) c.get8.result c.get8.ensures c.sends.result c.sends.ensures
