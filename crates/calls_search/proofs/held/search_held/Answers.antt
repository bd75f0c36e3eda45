use native.Mathlib.Omega.{arith}
use mathlib.Core.Path.{sym, ◌∙◌}
use Rattle.calls_search.proofs.HeldLaws.{row-few, served_not, served_unleased, served_found, lease-is}
use Rattle.calls_search.proofs.held.search_held.Goals as goal

pub overflow_mul-row : goal.overflow_mul-row
overflow_mul-row c =
    let w = row-few c.args.header.now c.args.stores.now _ c.args.at c.requires.0 in let z = c.requires.0.counts.0 in omega arith

pub overflow_add-row : goal.overflow_add-row
overflow_add-row c =
    let w = row-few c.args.header.now c.args.stores.now _ c.args.at c.requires.0 in let z = c.requires.0.counts.0 in omega arith

pub overflow_add-row-2 : goal.overflow_add-row-2
overflow_add-row-2 c =
    let w = row-few c.args.header.now c.args.stores.now _ c.args.at c.requires.0 in let z = c.requires.0.counts.0 in omega arith

pub role_at-role-requires : goal.role_at-role-requires
role_at-role-requires c =
    let w = row-few c.args.header.now c.args.stores.now _ c.args.at c.requires.0 in let z = c.requires.0.counts.0 in omega arith

pub overflow_add-row-then-not-leads : goal.overflow_add-row-then-not-leads
overflow_add-row-then-not-leads c =
    let w = row-few c.args.header.now c.args.stores.now _ c.args.at c.requires.0 in let z = c.requires.0.counts.0 in omega arith

pub get8-requires : goal.get8-requires
get8-requires c =
    let w = row-few c.args.header.now c.args.stores.now _ c.args.at c.requires.0 in let z = c.requires.0.counts.0 in omega arith

pub returns-then-not-leads : goal.returns-then-not-leads
returns-then-not-leads c =
    let a = c.args in served_not a.header.now a.stores.now _ a.at c.requires.0 a.clock a.epoch.0 a.k a.query.now c.requires.1 a.hits.now a.answer.now _ c.role_at-role.ensures (sym c.leads.ensures ∙ c.if-not-leads.true) _ c.get8.ensures _ c.put_number.ensures.1

pub get4-requires : goal.get4-requires
get4-requires c = let z = c.requires.0.counts.0 in omega arith

pub get8-requires-2 : goal.get8-requires-2
get8-requires-2 c = let z = c.requires.0.counts.0 in omega arith

pub returns-then-not-leased : goal.returns-then-not-leased
returns-then-not-leased c =
    let a = c.args in served_unleased a.header.now a.stores.now _ a.at c.requires.0 a.clock a.epoch.0 a.k a.query.now c.requires.1 a.hits.now a.answer.now _ c.role_at-role.ensures (sym c.leads.ensures ∙ c.if-not-leads.false) c.leased.result
    (lease-is a.header.now a.stores.now _ a.at c.requires.0 a.clock _ _ c.get4.ensures c.get8-2.ensures _ c.expiry_of-lease.ensures _ c.leased.ensures) (c.if-not-leased.true)

pub nearest_held-h-requires : goal.nearest_held-h-requires
nearest_held-h-requires c = c.requires

pub put_found-requires : goal.put_found-requires
put_found-requires c = let h = c.nearest_held-h.ensures in (h.most, h.long)

pub returns : goal.returns
returns c =
    let a = c.args in served_found a.header.now a.stores.now _ a.at c.requires.0 a.clock a.epoch.0 a.k a.query.now c.requires.1 a.hits.now a.answer.now _ c.role_at-role.ensures (sym c.leads.ensures ∙ c.if-not-leads.false) c.leased.result
    (lease-is a.header.now a.stores.now _ a.at c.requires.0 a.clock _ _ c.get4.ensures c.get8-2.ensures _ c.expiry_of-lease.ensures _ c.leased.ensures) (c.if-not-leased.false) _ c.nearest_held-h.ensures _ c.put_found.ensures
