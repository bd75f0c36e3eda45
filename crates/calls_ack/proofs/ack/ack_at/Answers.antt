use native.Mathlib.Omega.{arith}
use mathlib.Core.Path.{sym, ◌∙◌}
use Rattle.image_header_set.proofs.Place.{few-there}
use Rattle.image_header_set.proofs.SetLaws.{counts-still}
use Rattle.calls_ack.proofs.AckLaws.{at_not, at_none, few-peers, at_deed}
use Rattle.calls_ack.proofs.ack.ack_at.Goals as goal

pub overflow_mul-row : goal.overflow_mul-row
overflow_mul-row c = let p = c.requires.0.0 in let f = c.requires.0.1 in let l = c.requires.1 in omega arith

pub overflow_add-row : goal.overflow_add-row
overflow_add-row c = let p = c.requires.0.0 in let f = c.requires.0.1 in let l = c.requires.1 in omega arith

pub overflow_add-row-2 : goal.overflow_add-row-2
overflow_add-row-2 c = let p = c.requires.0.0 in let f = c.requires.0.1 in let l = c.requires.1 in omega arith

pub role_at-role-requires : goal.role_at-role-requires
role_at-role-requires c = let p = c.requires.0.0 in let f = c.requires.0.1 in let l = c.requires.1 in omega arith

pub put_back-requires : goal.put_back-requires
put_back-requires c = c.requires.0

pub returns-then-not-leads : goal.returns-then-not-leads
returns-then-not-leads c =
    at_not c.args.header.now c.args.count c.requires.0 c.args.at c.requires.1 c.requires.2 c.args.epoch c.args.peer c.args.step c.args.reply c.role_at-role.result c.role_at-role.ensures (sym c.leads.ensures ∙ c.if-not-leads.true) _ c.put_back.ensures

pub overflow_add-row-3 : goal.overflow_add-row-3
overflow_add-row-3 c = let p = c.requires.0.0 in let f = c.requires.0.1 in let l = c.requires.1 in omega arith

pub get8-n-requires : goal.get8-n-requires
get8-n-requires c = let p = c.requires.0.0 in let f = c.requires.0.1 in let l = c.requires.1 in omega arith

pub overflow_add-row-4 : goal.overflow_add-row-4
overflow_add-row-4 c = let p = c.requires.0.0 in let f = c.requires.0.1 in let l = c.requires.1 in omega arith

pub place_of-i-requires : goal.place_of-i-requires
place_of-i-requires c =
    let p = c.requires.0.0 in let f = c.requires.0.1 in let l = c.requires.1 in let w = few-there c.args.header.now c.args.count c.requires.0 c.args.at c.requires.1 c.requires.2 in let e = c.get8-n.ensures in (omega arith, omega arith)

pub returns-then-n-i : goal.returns-then-n-i
returns-then-n-i c =
    at_none c.args.header.now c.args.count c.requires.0 c.args.at c.requires.1 c.requires.2 c.args.epoch c.args.peer c.args.step c.args.reply c.role_at-role.result c.role_at-role.ensures (sym c.leads.ensures ∙ c.if-not-leads.false) c.get8-n.result c.get8-n.ensures c.place_of-i.result c.place_of-i.ensures c.if-n-i.true

pub asks-d-requires : goal.asks-d-requires
asks-d-requires c = c.requires.3

pub set_deed-said-requires : goal.set_deed-said-requires
set_deed-said-requires c =
    let p = c.requires.0.0 in let f = c.requires.0.1 in let l = c.requires.1 in (omega arith, few-peers c.args.header.now c.args.count c.requires.0 c.args.at c.requires.1 c.requires.2 c.args.epoch c.args.peer c.args.step c.args.reply c.role_at-role.result c.role_at-role.ensures (sym c.leads.ensures ∙ c.if-not-leads.false) c.get8-n.result c.get8-n.ensures c.place_of-i.result c.place_of-i.ensures c.if-n-i.false)

pub put_back-requires-2 : goal.put_back-requires-2
put_back-requires-2 c =
    counts-still c.args.header.now _ c.args.count c.requires.0 c.args.at c.requires.1 c.set_deed-said.ensures.1.outside

pub returns : goal.returns
returns c =
    at_deed c.args.header.now c.args.count c.requires.0 c.args.at c.requires.1 c.requires.2 c.args.epoch c.args.peer c.args.step c.args.reply c.role_at-role.result c.role_at-role.ensures (sym c.leads.ensures ∙ c.if-not-leads.false) c.get8-n.result c.get8-n.ensures c.place_of-i.result c.place_of-i.ensures c.if-n-i.false c.asks-d.result c.asks-d.ensures _ _ _ c.set_deed-said.ensures.0 c.set_deed-said.ensures.1 (λ j. omega (arith, c.slice_known-2-1.given j)) c.put_back-2.ensures
