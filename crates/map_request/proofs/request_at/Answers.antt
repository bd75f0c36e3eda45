use native.Mathlib.Omega.{arith}
use Rattle.map_request.proofs.Loads.{none-at, missed_at, found_at, some_at}
use Rattle.map_request.proofs.request_at.Goals as goal

pub returns-in_default : goal.returns-in_default
returns-in_default c =
    let a = c.args in
    let r = c.request_at-read in
    none-at a.s.now a.at c.blank.result (missed_at a.s.now a.at r.result r.ensures (λ q e.
    c.in_default.not-Request _ e))

pub load-request-requires : goal.load-request-requires
load-request-requires c =
    let a = c.args in
    let r = c.request_at-read in
    (found_at a.s.now a.at r.result r.ensures _ c.in-Request.is).shows.held

pub returns : goal.returns
returns c =
    let a = c.args in
    let r = c.request_at-read in
    some_at a.s.now a.at _ r.result.next (λ i. omega (arith, c.type_inv.s i)) (found_at a.s.now a.at r.result r.ensures _ c.in-Request.is) c.load-request.result c.load-request.ensures
