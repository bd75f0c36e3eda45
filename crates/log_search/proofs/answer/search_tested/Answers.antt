use native.Mathlib.Omega.{arith}
use mathlib.Core.Path.{◌∙◌, ap, subst}
use Prim.Native.Nat.{ℕ, ◌≤◌, ◌<◌}
use Rattle.spec.specs.Nearest.Search.{hits}
use Rattle.log_store.specs.Table.{vectors_of}
use Rattle.log_search.proofs.Searching.{vector_bounded}
use Rattle.log_search.proofs.Answered.{least_most, least_both, answered-short, answered-found}
use Rattle.log_search.proofs.answer.search_tested.Goals as goal

pub nearest-h-requires : goal.nearest-h-requires
nearest-h-requires c =
    let p = c.requires in (p.0, p.1, vector_bounded _ p.2, omega (arith, least_most _ _ _ c.least-most.ensures))

pub returns-then-least-n : goal.returns-then-least-n
returns-then-least-n c =
    let p = c.requires in
    let h = c.nearest-h.ensures in
    let most = c.least-most.ensures in
    answered-short _ _ _ _ _ p.0 p.1 p.2 c.nearest-h.result.items c.nearest-h.result.count (omega (arith, h.0, h.1, least_most _ _ _ most))
    (h.2 ∙ ap (hits c.args.metric c.args.query.now (vectors_of _ _)) most) _ _ (subst (λ (x : ℕ). x < c.nearest-h.result.count) c.least.ensures c.if-least-n.true)

pub write_hits-requires : goal.write_hits-requires
write_hits-requires c =
    let h = c.nearest-h.ensures in
    let room = least_both _ _ _ c.least.ensures in
    let t = c.if-least-n.false in
    (omega (arith, h.1, least_most _ _ _ c.least-most.ensures), h.0, omega (arith, room.0), omega (arith, room.1))

pub returns : goal.returns
returns c =
    let p = c.requires in
    let h = c.nearest-h.ensures in
    let most = c.least-most.ensures in
    answered-found _ _ _ _ _ p.0 p.1 p.2 c.nearest-h.result.items c.nearest-h.result.count (omega (arith, h.0, h.1, least_most _ _ _ most))
    (h.2 ∙ ap (hits c.args.metric c.args.query.now (vectors_of _ _)) most) _ _ (subst (λ (x : ℕ). c.nearest-h.result.count ≤ x) c.least.ensures c.if-least-n.false) _ _
    c.write_hits.ensures.0 c.write_hits.ensures.1
