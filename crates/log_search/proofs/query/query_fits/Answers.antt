use Rattle.log_search.proofs.Asked.{query-none, query_long, query-start, query-end, query-on, query_stop}
use Rattle.log_search.proofs.query.query_fits.Goals as goal

pub returns-then-query-eq0 : goal.returns-then-query-eq0
returns-then-query-eq0 c = query-none _ c.if-query-eq0.true

pub returns-then-query-gt32 : goal.returns-then-query-gt32
returns-then-query-gt32 c = query_long _ c.if-query-eq0.false c.if-query-gt32.true

pub loop-x-init : goal.loop-x-init
loop-x-init c = query-start _ c.if-query-eq0.false c.if-query-gt32.false

pub returns-then-not-in_domain : goal.returns-then-not-in_domain
returns-then-not-in_domain c =
    let l = c.loop-x in
    query_stop _ c.if-query-eq0.false c.if-query-gt32.false l.x-index l.invariant
    c.loop-x-test.true (c.type_inv.query l.x-index) _ c.in_domain.ensures (c.if-not-in_domain.true)

pub loop-x-preserved : goal.loop-x-preserved
loop-x-preserved c =
    let l = c.loop-x in
    query-on _ c.if-query-eq0.false c.if-query-gt32.false l.x-index l.invariant
    c.loop-x-test.true (c.type_inv.query l.x-index) _ c.in_domain.ensures (c.if-not-in_domain.false)

pub returns : goal.returns
returns c =
    query-end _ c.if-query-eq0.false c.if-query-gt32.false c.loop-x.x-index c.loop-x-test.false c.loop-x.invariant
