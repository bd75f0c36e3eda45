use borrow.Author.Rules.{rules}
use native.Mathlib.Omega.{arith}
use mathlib.Core.Path.{◌≡◌, sym, ◌∙◌}
use Prim.Native.Nat.{◌≤◌}
use lib.ListN.{length}
use Rattle.image_map.specs.Image.{map_at}
use borrow.Author.Tests.{not-true, not-false}
use lib.Seq.{length-take-le}
use Rattle.image_map_count.specs.Read.{view_ids, view_six}
use Rattle.image_map_count.proofs.Ids.{narrow}
use Rattle.image_map_count.proofs.Answer.{malformed_answer, wide-answer, beyond-answer, six_answer, total_of_lem, total-fits, total-beyond}
use Rattle.image_map_count.proofs.count_placements.Goals as goal
use Rattle.image_map_count.proofs.count_placements.Goals.{Start}

-- the ids in use
size : (c : Start) → c.args.ids.count ≤ 4 → c.args.ids.count ≡ length (view_ids c.args.ids)
size c few =
    let h : length c.args.ids.items ≡ 4 = search rules in
    sym (length-take-le c.args.ids.count c.args.ids.items (omega (arith, few)))

pub is_formed-requires : goal.is_formed-requires
is_formed-requires c = c.requires

pub returns-then-not-is_formed : goal.returns-then-not-is_formed
returns-then-not-is_formed c =
    malformed_answer (map_at c.args.map.now) c.args.name c.args.spec c.args.ids c.args.lists c.args.nodes (sym c.is_formed.ensures ∙ c.if-not-is_formed.true)

pub returns-then-too_wide : goal.returns-then-too_wide
returns-then-too_wide c =
    wide-answer (map_at c.args.map.now) c.args.name c.args.spec c.args.ids c.args.lists c.args.nodes (sym c.is_formed.ensures ∙ c.if-not-is_formed.false) (sym c.too_wide.ensures ∙ c.if-too_wide.true)

pub returns-then-not-total : goal.returns-then-not-total
returns-then-not-total c =
    let w = narrow c.args.ids c.args.lists c.args.nodes (sym c.too_wide.ensures ∙ c.if-too_wide.false) in
    beyond-answer (map_at c.args.map.now) c.args.name c.args.spec c.args.ids c.args.lists c.args.nodes (sym c.is_formed.ensures ∙ c.if-not-is_formed.false) (sym c.too_wide.ensures ∙ c.if-too_wide.false) (total-beyond c.args.ids.count c.args.lists c.args.nodes (length (view_ids c.args.ids)) w.few w.held (size (goal.at.returns-then-not-total c).Start w.few) c.geometric-each.result c.geometric-total.result c.geometric-each.ensures c.geometric-total.ensures (not-true _ c.if-not-total.true))

pub six_of-six-requires : goal.six_of-six-requires
six_of-six-requires c =
    let w = narrow c.args.ids c.args.lists c.args.nodes (sym c.too_wide.ensures ∙ c.if-too_wide.false) in
    let e = total_of_lem c.args.ids.count c.args.lists c.args.nodes (length (view_ids c.args.ids)) w.few w.held (size (goal.at.six_of-six-requires c).Start w.few) c.geometric-each.result c.geometric-total.result c.geometric-each.ensures c.geometric-total.ensures (not-false _ c.if-not-total.false) in
    let f = total-fits c.args.ids.count c.args.lists c.args.nodes (length (view_ids c.args.ids)) w.few w.held (size (goal.at.six_of-six-requires c).Start w.few) c.geometric-each.result c.geometric-total.result c.geometric-each.ensures c.geometric-total.ensures (not-false _ c.if-not-total.false) in
    record { formed = record { long = c.requires; right = sym c.is_formed.ensures ∙ c.if-not-is_formed.false }; few = w.few; sized = size (goal.at.six_of-six-requires c).Start w.few; listed = w.listed; held = w.held; fits = omega (arith, e, f); whole = e }

pub returns : goal.returns
returns c =
    let w = narrow c.args.ids c.args.lists c.args.nodes (sym c.too_wide.ensures ∙ c.if-too_wide.false) in
    six_answer (map_at c.args.map.now) c.args.name c.args.spec c.args.ids c.args.lists c.args.nodes (sym c.is_formed.ensures ∙ c.if-not-is_formed.false) (sym c.too_wide.ensures ∙ c.if-too_wide.false) (view_six c.six_of-six.result) (total-fits c.args.ids.count c.args.lists c.args.nodes (length (view_ids c.args.ids)) w.few w.held (size (goal.at.returns c).Start w.few) c.geometric-each.result c.geometric-total.result c.geometric-each.ensures c.geometric-total.ensures (not-false _ c.if-not-total.false)) c.six_of-six.ensures
