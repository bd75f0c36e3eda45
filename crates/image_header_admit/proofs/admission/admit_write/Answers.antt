use native.Mathlib.Omega.{arith}
use mathlib.Core.Path.{sym, ◌∙◌, ap}
use Rattle.spec.specs.Node.Lease.{before}
use Rattle.node_admit.specs.View.{view_expiry}
use Rattle.image_parts.specs.Codes.{flag_of}
use Rattle.image_header.specs.Image.{node_at}
use Rattle.image_header_admit.proofs.AdmissionLaws.{elsewhere, unleased, too_few, full, admitted}
use Rattle.image_header_admit.proofs.admission.admit_write.Goals as goal

pub role_at-role-requires : goal.role_at-role-requires
role_at-role-requires c = let r = c.requires.1 in omega arith

pub get8-requires : goal.get8-requires
get8-requires c = let r = c.requires.1 in omega arith

pub returns-then-not-leads : goal.returns-then-not-leads
returns-then-not-leads c =
    let a = c.args in let s = a.s.now in
    elsewhere s a.row a.epoch (before (view_expiry (node_at s).expiry) a.clock) a.least c.role_at-role.result c.role_at-role.ensures c.leads.result c.leads.ensures (c.if-not-leads.true) c.get8.result c.get8.ensures

pub is_leased-requires : goal.is_leased-requires
is_leased-requires c = c.requires.0

pub returns-then-not-is_leased : goal.returns-then-not-is_leased
returns-then-not-is_leased c =
    let a = c.args in let s = a.s.now in
    unleased s a.row a.epoch (before (view_expiry (node_at s).expiry) a.clock) a.least c.role_at-role.result c.role_at-role.ensures c.leads.result c.leads.ensures (c.if-not-leads.false) (sym c.is_leased.ensures ∙ c.if-not-is_leased.true)

pub get8-count-requires : goal.get8-count-requires
get8-count-requires c = let r = c.requires.1 in omega arith

pub members-others-requires : goal.members-others-requires
members-others-requires c =
    let r = c.requires.1 in let f = c.requires.2 in let e = c.get8-count.ensures in (omega arith, omega arith)

pub get4-requires : goal.get4-requires
get4-requires c = let r = c.requires.1 in omega arith

pub plus_own-requires : goal.plus_own-requires
plus_own-requires c = c.members-others.ensures.1

pub returns-then-plus_own-least : goal.returns-then-plus_own-least
returns-then-plus_own-least c =
    let a = c.args in let s = a.s.now in
    too_few s a.row a.epoch (before (view_expiry (node_at s).expiry) a.clock) a.least c.role_at-role.result c.role_at-role.ensures c.leads.result c.leads.ensures (c.if-not-leads.false) (sym c.is_leased.ensures ∙ c.if-not-is_leased.false)
    c.get8-count.result c.members-others.result c.flag_of-own.result c.plus_own.result c.get8-count.ensures c.members-others.ensures.0 (c.flag_of-own.ensures ∙ ap flag_of c.get4.ensures) c.plus_own.ensures c.if-plus_own-least.true

pub get8-requires-2 : goal.get8-requires-2
get8-requires-2 c = let r = c.requires.1 in omega arith

pub returns-then-get8-ge1024 : goal.returns-then-get8-ge1024
returns-then-get8-ge1024 c =
    let a = c.args in let s = a.s.now in
    full s a.row a.epoch (before (view_expiry (node_at s).expiry) a.clock) a.least c.role_at-role.result c.role_at-role.ensures c.leads.result c.leads.ensures (c.if-not-leads.false) (sym c.is_leased.ensures ∙ c.if-not-is_leased.false)
    c.get8-count.result c.members-others.result c.flag_of-own.result c.plus_own.result c.get8-count.ensures c.members-others.ensures.0 (c.flag_of-own.ensures ∙ ap flag_of c.get4.ensures) c.plus_own.ensures c.if-plus_own-least.false c.get8-2.result c.get8-2.ensures c.if-get8-ge1024.true

pub returns : goal.returns
returns c =
    let a = c.args in let s = a.s.now in
    admitted s a.row a.epoch (before (view_expiry (node_at s).expiry) a.clock) a.least c.role_at-role.result c.role_at-role.ensures c.leads.result c.leads.ensures (c.if-not-leads.false) (sym c.is_leased.ensures ∙ c.if-not-is_leased.false)
    c.get8-count.result c.members-others.result c.flag_of-own.result c.plus_own.result c.get8-count.ensures c.members-others.ensures.0 (c.flag_of-own.ensures ∙ ap flag_of c.get4.ensures) c.plus_own.ensures c.if-plus_own-least.false c.get8-2.result c.get8-2.ensures c.if-get8-ge1024.false
